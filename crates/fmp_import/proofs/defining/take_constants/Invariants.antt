use Rattle.fmp_import.specs.Constants.{HasMore}
use Rattle.fmp_import.proofs.defining.take_constants.Given as goal

abbrev pub invariant-loop-round : goal.invariant-loop-round
invariant-loop-round l = HasMore l.fn.constants l.constants

use Rattle.fmp_import.specs.Constants.{HasMore}
use Rattle.fmp_import.proofs.defining.take_again.Given as goal

abbrev pub invariant-loop-line : goal.invariant-loop-line
invariant-loop-line l = HasMore l.fn.constants l.constants

use Rattle.fmp_import.specs.Constants.{HasMore}
use Rattle.fmp_import.proofs.defining.take_known.Given as goal

abbrev pub invariant-loop-lexeme : goal.invariant-loop-lexeme
invariant-loop-lexeme l = HasMore l.fn.constants l.constants

use Rattle.fmp_import.specs.Constants.{HasMore}
use Rattle.fmp_import.proofs.constants.Constants.take_header.Given as goal

abbrev pub invariant-loop-lexeme : goal.invariant-loop-lexeme
invariant-loop-lexeme l = HasMore l.fn.self l.self

use Rattle.std.proofs.Common.{◌≡◌, ◌++◌, drop}
use Rattle.fmp_searching.specs.Questions.{sentence_codes}
use Rattle.fmp_searching.proofs.at_calls.sentence_codes.Given as goal

abbrev pub invariant-loop-never : goal.invariant-loop-never
invariant-loop-never l = l.codes.items ++ sentence_codes (drop l.never-index l.sentences) ≡ sentence_codes l.sentences

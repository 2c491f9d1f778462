use Rattle.std.proofs.Common.{◌≡◌, ◌++◌, take}
use Rattle.fmp_diagnosis.specs.Words.{words_text}
use Rattle.fmp_diagnosis.proofs.words.say.Given as goal

abbrev pub invariant-loop-word : goal.invariant-loop-word
invariant-loop-word l = l.out.items ≡ l.fn.out.items ++ words_text (take l.word-index l.words)

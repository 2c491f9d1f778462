use Rattle.std.proofs.Common.{◌≡◌, length}
use Rattle.std.specs.Prelude.{slice_get}
use Rattle.fmp_expect.specs.Words.{words_of}
use Rattle.fmp_expect.proofs.words.word_at.Given as goal

-- the word stands at the place that is left of the words that are left
abbrev pub invariant-loop-word : goal.invariant-loop-word
invariant-loop-word l = slice_get (words_of l.rest) l.left ≡ slice_get (words_of l.line) l.place

abbrev pub decreases-loop-word : goal.decreases-loop-word
decreases-loop-word l = length l.rest

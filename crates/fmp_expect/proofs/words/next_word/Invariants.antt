use Rattle.std.proofs.Common.{◌≡◌, ◌≤◌, length}
use Rattle.fmp_expect.specs.Words.{words_of}
use Rattle.fmp_expect.proofs.words.next_word.Given as goal

-- the words that are left are those of the line
abbrev pub invariant-loop-rest : goal.invariant-loop-rest
invariant-loop-rest l = record {
  words : words_of l.rest ≡ words_of l.line;
  within : length l.rest ≤ length l.line;
}

abbrev pub decreases-loop-rest : goal.decreases-loop-rest
decreases-loop-rest l = length l.rest

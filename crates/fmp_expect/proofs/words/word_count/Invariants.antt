use Rattle.std.proofs.Common.{◌≡◌, ◌+◌, ◌≤◌, length}
use Rattle.fmp_expect.specs.Words.{words_of}
use Rattle.fmp_expect.proofs.words.word_count.Given as goal

-- the words that were counted and those that are left are those of the line
abbrev pub invariant-loop-after : goal.invariant-loop-after
invariant-loop-after l = record {
  counted : l.count + length (words_of l.rest) ≡ length (words_of l.line);
  within : l.count + length l.rest ≤ length l.line;
}

abbrev pub decreases-loop-after : goal.decreases-loop-after
decreases-loop-after l = length l.rest

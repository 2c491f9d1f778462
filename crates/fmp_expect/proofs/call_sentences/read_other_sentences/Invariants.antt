use Rattle.std.proofs.Common.{◌≡◌, ◌+◌, ◌≤◌, length}
use Rattle.fmp_base.specs.Systems.{tables_of}
use Rattle.fmp_expect.specs.Grammar.{after_all}
use Rattle.fmp_expect.specs.CallSentences.{other_sentences_from, other_sentences_of}
use Rattle.fmp_expect.specs.Words.{lines_of}
use Rattle.fmp_expect.proofs.call_sentences.read_other_sentences.Given as goal

-- the expectations so far, and those of the lines that are left, are those of the text
abbrev pub invariant-loop-rest : goal.invariant-loop-rest
invariant-loop-rest l = record {
  counted : l.number + length l.rest ≤ length l.text + 1;
  said : after_all l.all.items (other_sentences_from (tables_of l.sys) l.number (lines_of l.rest))
      ≡ other_sentences_of (tables_of l.sys) l.text;
}

abbrev pub decreases-loop-rest : goal.decreases-loop-rest
decreases-loop-rest l = length l.rest

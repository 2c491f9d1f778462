use Rattle.std.proofs.Common.{◌≡◌, ◌+◌, ◌≤◌, length}
use Rattle.fmp_base.specs.Systems.{tables_of}
use Rattle.fmp_expect.specs.Grammar.{after_all, expectations_from, expectations_of}
use Rattle.fmp_expect.specs.Words.{lines_of}
use Rattle.fmp_expect.proofs.reading.read_expectations.Given as goal

-- the expectations so far, and those of the lines that are left, are those of the text
abbrev pub invariant-loop-rest : goal.invariant-loop-rest
invariant-loop-rest l = record {
  counted : l.number + length l.rest ≤ length l.text + 1;
  said : after_all l.all.items (expectations_from (tables_of l.sys) l.number (lines_of l.rest))
      ≡ expectations_of (tables_of l.sys) l.text;
}

abbrev pub decreases-loop-rest : goal.decreases-loop-rest
decreases-loop-rest l = length l.rest

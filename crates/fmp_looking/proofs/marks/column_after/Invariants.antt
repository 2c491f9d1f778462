use Rattle.std.proofs.Common.{◌≡◌, ◌≤◌, ◌+◌, drop}
use Rattle.fmp_looking.specs.Marks.{column_after}
use Rattle.fmp_looking.proofs.marks.column_after.Given as goal

abbrev pub invariant-loop-byte : goal.invariant-loop-byte
invariant-loop-byte l =
    record {
      rest : column_after l.column (drop l.byte-index l.front) ≡ column_after 1 l.front;
      few : l.column ≤ l.byte-index + 1;
    }

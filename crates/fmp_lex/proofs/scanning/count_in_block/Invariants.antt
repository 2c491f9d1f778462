use Rattle.std.proofs.Common.{◌≡◌, ◌≤◌, ◌==◌, take, count_by}
use Rattle.fmp_lex.proofs.scanning.count_in_block.Given as goal

abbrev pub invariant-loop-b : goal.invariant-loop-b
invariant-loop-b l = record {
  counted : l.count ≡ count_by (λ b. b == l.byte) (take l.b-index l.block);
  few : l.count ≤ l.b-index;
}

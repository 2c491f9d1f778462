use Rattle.std.proofs.Common.{◌≡◌, ◌+◌, ◌-◌, ◌<◌, ◌==◌, true, slice_index, take}
use Rattle.std.specs.Prelude.{count_by}
use Rattle.fmp_server.proofs.positions.line_start.Given as goal

abbrev pub invariant-loop-i : goal.invariant-loop-i
invariant-loop-i l = record {
  lines : l.left + count_by (λ b. b == 10) (take l.i l.text) ≡ l.line;
  first : l.left ≡ 0 → 0 < l.i → (slice_index l.text (l.i - 1) == 10) ≡ true;
}

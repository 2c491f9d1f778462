use Rattle.std.proofs.Common.{◌≡◌, ℕ, ◌+◌, ◌<◌, ◌==◌, false, slice_index, take}
use Rattle.fmp_server.specs.Positions.{width}
use Rattle.fmp_server.proofs.positions.column_at.Given as goal

abbrev pub invariant-loop-i : goal.invariant-loop-i
invariant-loop-i l = record {
  units : l.left + width (take l.i l.rest) ≡ l.character;
  one : (k : ℕ) → k < l.i → (slice_index l.rest k == 10) ≡ false;
}

use Rattle.std.proofs.Common.{◌≡◌, ℕ, ◌+◌, ◌-◌, ◌*◌, ◌<◌, ◌≤◌, get_or, length, vec_len}
use Rattle.std.specs.Prelude.{vec_capacity}
use Rattle.fmp_image_bytes.proofs.bodies.read_depths.Given as goal

abbrev pub invariant-loop-position : goal.invariant-loop-position
invariant-loop-position l = record {
  count : length l.depths.items ≡ l.position;
  each : (k : ℕ) → k < l.position → get_or l.depths.items k 0 ≡ get_or l.bytes (6 * k + 5) 0;
  room : vec_len l.depths + (l.size - l.position) ≤ vec_capacity l.depths;
}

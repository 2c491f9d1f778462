use Rattle.std.proofs.Common.{◌≤◌, ◌+◌, ◌-◌, length, vec_len}
use Rattle.std.specs.Prelude.{vec_capacity}
use Rattle.fmp_image_bytes.proofs.KeptCode.{SoFar}
use Rattle.fmp_image_bytes.proofs.bodies.read_steps.Given as goal

abbrev pub invariant-loop-position : goal.invariant-loop-position
invariant-loop-position l = record {
  so_far : SoFar l.version l.locals l.bytes l.depths l.position l.instructions.items;
  room : vec_len l.instructions + (length l.depths - l.position) ≤ vec_capacity l.instructions;
}

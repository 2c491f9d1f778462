use Rattle.std.proofs.Common.{◌≡◌, ◌*◌, ◌≤◌, take}
use Rattle.fmp_server.specs.Positions.{width}
use Rattle.fmp_server.proofs.positions.width.Given as goal

abbrev pub invariant-loop-byte : goal.invariant-loop-byte
invariant-loop-byte l = record {
  units : l.width ≡ width (take l.byte-index l.bytes);
  few : l.width ≤ 2 * l.byte-index;
}

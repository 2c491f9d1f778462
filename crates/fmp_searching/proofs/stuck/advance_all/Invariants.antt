use Rattle.std.proofs.Common.{◌≡◌, ◌≤◌, ◌^◌, length, take}
use Rattle.fmp_searching.specs.Fresh.{HasSeen}
use Rattle.fmp_searching.proofs.stuck.advance_all.Given as goal

abbrev pub invariant-loop-e : goal.invariant-loop-e
invariant-loop-e l = record {
  body : l.kernel.body ≡ l.initial.kernel.body;
  seen : length l.events ≤ 2 ^ 20 → HasSeen l.fn.image l.fn.n (take l.e-index l.events) l.kernel;
}

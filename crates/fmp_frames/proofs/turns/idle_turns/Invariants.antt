use Rattle.std.proofs.Common.{◌+◌, ◌≤◌, ◌^◌, drop, length}
use Rattle.fmp_frames.proofs.IdleTurns.{StandBefore}
use Rattle.fmp_frames.proofs.turns.idle_turns.Given as goal

abbrev pub invariant-loop-e : goal.invariant-loop-e
invariant-loop-e g l =
    record {
      turns : StandBefore g.T.Coming.reaction l.fn.kernel l.kernel l.events (drop l.e-index l.events) l.turns.items;
      few : l.kernel.taken + length l.events ≤ 2 ^ 31 + l.e-index;
    }

use Rattle.std.proofs.Common.{◌≡◌, ◌+◌, ◌≤◌, ◌^◌, drop, length}
use Rattle.fmp_kernel.specs.KernelViews.{view_after_all}
use Rattle.fmp_session.proofs.replaying.take_all.Given as goal

-- what is left to take leads to where all events lead
abbrev pub invariant-loop-e : goal.invariant-loop-e
invariant-loop-e g l = record {
  room : l.kernel.taken + length l.events ≤ 2 ^ 20 + l.e-index;
  state : view_after_all g.B.Body.meaning l.kernel (drop l.e-index l.events)
      ≡ view_after_all g.B.Body.meaning l.fn.kernel l.events;
}

use Rattle.std.proofs.Common.{◌≡◌, ◌+◌, ◌≤◌, ◌^◌, drop, length}
use Rattle.fmp_kernel.specs.Comings.{view_after_each}
use Rattle.fmp_frames.specs.Showing.{HasShown}
use Rattle.fmp_frames.proofs.FrameLemmas.{frames_of}
use Rattle.fmp_frames.proofs.showing.show_all.Given as goal

abbrev pub invariant-loop-e : goal.invariant-loop-e
invariant-loop-e g l =
    record {
      shown : (last : _) → HasShown g.V.Viewer.shown l.viewer (frames_of g.B.Body.meaning g.T.Coming.reaction l.kernel
          (drop l.e-index l.events)) last
          → HasShown g.V.Viewer.shown l.fn.viewer (frames_of g.B.Body.meaning g.T.Coming.reaction l.fn.kernel
          l.events) last;
      after : view_after_each g.T.Coming.reaction l.kernel (drop l.e-index l.events)
          ≡ view_after_each g.T.Coming.reaction l.fn.kernel l.events;
      few : l.kernel.taken + length l.events ≤ 2 ^ 31 + l.e-index;
    }

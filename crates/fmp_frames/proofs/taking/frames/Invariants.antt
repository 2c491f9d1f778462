use Rattle.std.proofs.Common.{◌≡◌, ◌++◌, ◌+◌, ◌≤◌, ◌^◌, drop, length, map}
use Rattle.fmp_kernel.specs.Comings.{view_after_each}
use Rattle.fmp_frames.specs.Frames.{table_of}
use Rattle.fmp_frames.proofs.FrameLemmas.{frames_of}
use Rattle.fmp_frames.proofs.taking.frames.Given as goal

abbrev pub invariant-loop-e : goal.invariant-loop-e
invariant-loop-e g l =
    record {
      frames : map table_of l.all.items ++ frames_of g.B.Body.meaning g.T.Coming.reaction l.kernel
          (drop l.e-index l.events)
          ≡ frames_of g.B.Body.meaning g.T.Coming.reaction l.fn.kernel l.events;
      after : view_after_each g.T.Coming.reaction l.kernel (drop l.e-index l.events)
          ≡ view_after_each g.T.Coming.reaction l.fn.kernel l.events;
      system : l.kernel.system ≡ l.fn.kernel.system;
      count : l.kernel.taken ≤ l.fn.kernel.taken + l.e-index;
      few : l.kernel.taken + length l.events ≤ 2 ^ 31 + l.e-index;
    }

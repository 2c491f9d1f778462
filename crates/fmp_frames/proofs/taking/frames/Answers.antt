use Rattle.std.proofs.Common.{arith, ◌∙◌, ◌≤◌, ◌+◌, sym}
use Rattle.fmp_kernel.proofs.Comings.{after-step, system-step, taken-step}
use Rattle.fmp_frames.proofs.FrameLemmas.{frames-done, frames-kept, frames-nothing}
use Rattle.fmp_frames.proofs.taking.frames.Goals as goal
use Rattle.fmp_frames.proofs.taking.frames.Goals.{in-Done+in_ok-append_last-in-Done, in-Kept+in_ok-append_kept-in-Kept}
use Rattle.fmp_frames.proofs.taking.frames.Goals.{in-Nothing}

pub loop-e-preserved : goal.loop-e-preserved
loop-e-preserved g c =
    let one : c.take.new.kernel.taken ≤ c.loop-e.kernel.taken
    + 1 = taken-step c.loop-e.kernel c.take.new.kernel _ c.take.ensures.state in
    record {
      frames = elim c.match-take.branch [
        | in-Done+in_ok-append_last-in-Done w ↦
            frames-done g.B.Body.meaning g.T.Coming.reaction c.loop-e.kernel c.take.new.kernel c.args.events.now
            c.loop-e.e-index c.e-item.result _ _ _ c.loop-e-test.true c.e-item.is
            (sym w.in-Done.is ∙ c.take.ensures.effect) c.take.ensures.state
            (rw w.all-is w.in_ok-append_last-in-Done.ensures) c.loop-e.invariant.frames
        | in-Kept+in_ok-append_kept-in-Kept w ↦
            frames-kept g.B.Body.meaning g.T.Coming.reaction c.loop-e.kernel c.take.new.kernel c.args.events.now
            c.loop-e.e-index c.e-item.result _ _ _ _ c.loop-e-test.true c.e-item.is
            (sym w.in-Kept.is ∙ c.take.ensures.effect) (w.place.ensures _) c.take.ensures.state
            (rw w.all-is w.in_ok-append_kept-in-Kept.ensures) c.loop-e.invariant.frames
        | in-Nothing w ↦
            rw w.all-is (frames-nothing g.B.Body.meaning g.T.Coming.reaction c.loop-e.kernel c.take.new.kernel
            c.args.events.now c.loop-e.e-index c.e-item.result _ _ c.loop-e-test.true c.e-item.is
            (sym w.in-Nothing.is ∙ c.take.ensures.effect) c.take.ensures.state c.loop-e.invariant.frames)
      ];
      after = after-step g.T.Coming.reaction c.loop-e.kernel c.take.new.kernel _ c.args.events.now c.loop-e.e-index
          c.e-item.result c.loop-e-test.true c.e-item.is
          c.take.ensures.state c.loop-e.invariant.after;
      system = system-step c.loop-e.kernel c.take.new.kernel _ c.take.ensures.state ∙ c.loop-e.invariant.system;
      count = omega arith;
      few = omega arith;
    }

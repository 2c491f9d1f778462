use Rattle.std.proofs.Common.{arith, ◌∙◌, ◌≤◌, ◌+◌, sym}
use Rattle.fmp_kernel.proofs.Comings.{after-step, taken-step}
use Rattle.fmp_frames.proofs.FrameLemmas.{shown-done, shown-kept, shown-nothing}
use Rattle.fmp_frames.proofs.showing.show_all.Goals as goal
use Rattle.fmp_frames.proofs.showing.show_all.Goals.{in-Done+in_ok-show_last-in-Done, in-Kept+in_ok-show_kept-in-Kept}
use Rattle.fmp_frames.proofs.showing.show_all.Goals.{in-Nothing}

pub loop-e-preserved : goal.loop-e-preserved
loop-e-preserved g c =
    let one : c.take.new.kernel.taken ≤ c.loop-e.kernel.taken
    + 1 = taken-step c.loop-e.kernel c.take.new.kernel _ c.take.ensures.state in
    record {
      shown = elim c.match-take.branch [
        | in-Done+in_ok-show_last-in-Done w ↦ λ last rest.
            c.loop-e.invariant.shown last
            (shown-done g.B.Body.meaning g.T.Coming.reaction g.V.Viewer.shown c.loop-e.kernel c.take.new.kernel
            c.args.events.now c.loop-e.e-index c.e-item.result _ _ last c.loop-e-test.true c.e-item.is
            (sym w.in-Done.is ∙ c.take.ensures.effect) c.take.ensures.state
            w.in_ok-show_last-in-Done.ensures (rw (← w.viewer-is) rest))
        | in-Kept+in_ok-show_kept-in-Kept w ↦ λ last rest.
            c.loop-e.invariant.shown last
            (shown-kept g.B.Body.meaning g.T.Coming.reaction g.V.Viewer.shown c.loop-e.kernel c.take.new.kernel
            c.args.events.now c.loop-e.e-index c.e-item.result _ _ _ last c.loop-e-test.true c.e-item.is
            (sym w.in-Kept.is ∙ c.take.ensures.effect) (w.place.ensures _) c.take.ensures.state
            w.in_ok-show_kept-in-Kept.ensures (rw (← w.viewer-is) rest))
        | in-Nothing w ↦ λ last rest.
            c.loop-e.invariant.shown last
            (shown-nothing g.B.Body.meaning g.T.Coming.reaction g.V.Viewer.shown c.loop-e.kernel c.take.new.kernel
            c.args.events.now c.loop-e.e-index c.e-item.result _ last c.loop-e-test.true c.e-item.is
            (sym w.in-Nothing.is ∙ c.take.ensures.effect) c.take.ensures.state (rw (← w.viewer-is) rest))
      ];
      after = after-step g.T.Coming.reaction c.loop-e.kernel c.take.new.kernel _ c.args.events.now c.loop-e.e-index
          c.e-item.result c.loop-e-test.true c.e-item.is
          c.take.ensures.state c.loop-e.invariant.after;
      few = omega arith;
    }

use Rattle.std.proofs.Common.{arith, refl, ◌∙◌, ◌≤◌, ◌+◌, sym}
use Rattle.fmp_kernel.proofs.Comings.{taken-step}
use Rattle.fmp_frames.specs.Answers.{heard_of}
use Rattle.fmp_frames.proofs.HeardLemmas.{heard-done, heard-kept, heard-nothing, heard-step}
use Rattle.fmp_frames.proofs.answers.answers_in.Goals as goal
use Rattle.fmp_frames.proofs.answers.answers_in.Goals.{in-Done+in_ok-note-in-Done, in-Kept, in-Nothing}

pub loop-e-preserved : goal.loop-e-preserved
loop-e-preserved g c =
    let one : c.take.new.kernel.taken ≤ c.loop-e.kernel.taken
    + 1 = taken-step c.loop-e.kernel c.take.new.kernel _ c.take.ensures.state in
    record {
      heard = elim c.match-take.branch [
        | in-Done+in_ok-note-in-Done w ↦
            heard-step g.B.Body.meaning c.loop-e.kernel c.take.new.kernel c.args.events.now c.loop-e.e-index
            _ _ _ _ _ c.loop-e-test.true refl c.take.ensures.state
            (rw w.heard-is (heard-done (heard_of c.loop-e.heard) _ _ _ _ c.loop-e.kernel c.take.new.kernel _
            (sym w.in-Done.is ∙ c.take.ensures.effect) c.take.ensures.state w.lines.ensures c.event_site-site.ensures
            w.in_ok-note-in-Done.ensures))
            c.loop-e.invariant.heard
        | in-Kept w ↦
            heard-step g.B.Body.meaning c.loop-e.kernel c.take.new.kernel c.args.events.now c.loop-e.e-index
            _ _ _ _ _ c.loop-e-test.true refl c.take.ensures.state
            (rw w.heard-is (heard-kept (heard_of c.loop-e.heard) _ _
            (sym w.in-Kept.is ∙ c.take.ensures.effect)))
            c.loop-e.invariant.heard
        | in-Nothing w ↦
            heard-step g.B.Body.meaning c.loop-e.kernel c.take.new.kernel c.args.events.now c.loop-e.e-index
            _ _ _ _ _ c.loop-e-test.true refl c.take.ensures.state
            (rw w.heard-is (heard-nothing (heard_of c.loop-e.heard) _ _
            (sym w.in-Nothing.is ∙ c.take.ensures.effect)))
            c.loop-e.invariant.heard
      ];
      few = omega arith;
    }

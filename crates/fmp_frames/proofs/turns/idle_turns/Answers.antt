use Rattle.std.proofs.Common.{ap, arith, refl, ℕ, ◌+◌, ◌≤◌, ◌∙◌, sym}
use Rattle.std.proofs.lemmas.List.{drop_all}
use Rattle.fmp_kernel.proofs.Comings.{taken-step}
use Rattle.fmp_frames.proofs.IdleTurns.{all_stand, none_yet, stand-done, stand-kept, stand-nothing}
use Rattle.fmp_frames.specs.Turns.{with_idle}
use Rattle.fmp_frames.proofs.turns.idle_turns.Goals as goal
use Rattle.fmp_frames.proofs.turns.idle_turns.Goals.{in-Done, in-Kept, in-Nothing+in_ok-add_idle-in-Nothing}

pub loop-e-init : goal.loop-e-init
loop-e-init g c =
    record {
      turns = none_yet g.T.Coming.reaction _ c.args.events.now _ _ refl c.new-turns.ensures.items;
      few = omega (arith, c.requires);
    }

pub loop-e-preserved : goal.loop-e-preserved
loop-e-preserved g c =
    let one : c.take.new.kernel.taken ≤ c.loop-e.kernel.taken
    + 1 = taken-step c.loop-e.kernel c.take.new.kernel _ c.take.ensures.state in
    record {
      turns = elim c.match-take.branch [
        | in-Done w ↦
            rw w.turns-is (stand-done g.T.Coming.reaction _ c.loop-e.kernel c.take.new.kernel c.args.events.now
            c.loop-e.e-index c.e-item.result _ _ c.loop-e-test.true c.e-item.is c.place-place.ensures
            (sym w.in-Done.is ∙ c.take.ensures.effect) c.take.ensures.state c.loop-e.invariant.turns)
        | in-Kept w ↦
            rw w.turns-is (stand-kept g.T.Coming.reaction _ c.loop-e.kernel c.take.new.kernel c.args.events.now
            c.loop-e.e-index c.e-item.result _ _ c.loop-e-test.true c.e-item.is c.place-place.ensures
            (sym w.in-Kept.is ∙ c.take.ensures.effect) c.take.ensures.state c.loop-e.invariant.turns)
        | in-Nothing+in_ok-add_idle-in-Nothing w ↦
            stand-nothing g.T.Coming.reaction _ c.loop-e.kernel c.take.new.kernel c.args.events.now
            c.loop-e.e-index c.e-item.result _ _ _ c.loop-e-test.true c.e-item.is c.place-place.ensures
            (sym w.in-Nothing.is ∙ c.take.ensures.effect) c.take.ensures.state
            (rw w.turns-is (w.in_ok-add_idle-in-Nothing.ensures
            ∙ ap (λ (n : ℕ). with_idle c.loop-e.turns.items n c.place-place.result) w.done.ensures))
            c.loop-e.invariant.turns
      ];
      few = omega arith;
    }

pub returns : goal.returns
returns g c =
    all_stand g.T.Coming.reaction _ c.loop-e.kernel c.args.events.now _ _
    (drop_all c.loop-e.e-index c.args.events.now (omega (arith, c.loop-e-test.false))) c.loop-e.invariant.turns

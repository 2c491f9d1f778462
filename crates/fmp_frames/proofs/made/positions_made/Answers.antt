use Rattle.std.proofs.Common.{Option, [], ◌∷◌, ◌++◌, ap, arith, refl, ◌∙◌, ◌≤◌, ◌+◌, sym}
use Rattle.fmp_kernel.proofs.Comings.{taken-step}
use Rattle.fmp_instructions.specs.Instructions.{code_tables}
use Rattle.fmp_frames.specs.declared.call_positions.CallPosition.{CallPosition}
use Rattle.fmp_frames.proofs.MadeLemmas.{made-done, made-kept, made-nothing}
use Rattle.fmp_frames.proofs.made.positions_made.Goals as goal
use Rattle.fmp_frames.proofs.made.positions_made.Goals.{in-Done+in_ok-push-in-Done, in-Kept, in-Nothing}

pub loop-e-preserved : goal.loop-e-preserved
loop-e-preserved g c =
    let one : c.take.new.kernel.taken ≤ c.loop-e.kernel.taken
    + 1 = taken-step c.loop-e.kernel c.take.new.kernel _ c.take.ensures.state in
    record {
      made = elim c.match-take.branch [
        | in-Done+in_ok-push-in-Done w ↦
            made-done g.B.Body.meaning (code_tables c.args.text.code.now) c.args.text.positions.now c.loop-e.kernel
            c.take.new.kernel c.args.events.now c.loop-e.e-index _ _ _ _ _ c.loop-e-test.true refl
            (sym w.in-Done.is ∙ c.take.ensures.effect) c.take.ensures.state
            (rw w.made-is (w.in_ok-push-in-Done.ensures.items
            ∙ ap (λ (x : Option CallPosition). c.loop-e.made.items ++ x ∷ []) c.event_position-position.ensures))
            c.loop-e.invariant.made
        | in-Kept w ↦
            rw w.made-is (made-kept g.B.Body.meaning (code_tables c.args.text.code.now) c.args.text.positions.now
            c.loop-e.kernel c.take.new.kernel c.args.events.now c.loop-e.e-index _ _ _ _ c.loop-e-test.true refl
            (sym w.in-Kept.is ∙ c.take.ensures.effect) c.take.ensures.state c.loop-e.invariant.made)
        | in-Nothing w ↦
            rw w.made-is (made-nothing g.B.Body.meaning (code_tables c.args.text.code.now) c.args.text.positions.now
            c.loop-e.kernel c.take.new.kernel c.args.events.now c.loop-e.e-index _ _ _ _
            c.loop-e-test.true refl
            (sym w.in-Nothing.is ∙ c.take.ensures.effect) c.take.ensures.state c.loop-e.invariant.made)
      ];
      few = omega arith;
    }

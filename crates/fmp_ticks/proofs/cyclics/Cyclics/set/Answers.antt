use Rattle.std.proofs.Common.{◌<◌, ◌∙◌, ℕ, length, ap, sym, refl}
use Rattle.std.proofs.Math.ListN.{length-set}
use Rattle.std.proofs.lemmas.Option.{slice_get_read}
use Rattle.fmp_ticks.specs.Times.{least_time, lowered}
use Rattle.fmp_ticks.proofs.LeastLemmas.{least-set, other-time}
use Rattle.fmp_ticks.proofs.cyclics.Cyclics.set.Goals as goal
use Rattle.fmp_ticks.proofs.cyclics.Cyclics.set.Goals.{then-was_first, else-was_first}

pub invariant_of-self : goal.invariant_of-self
invariant_of-self c =
    let there : c.args.c < length c.self.inside.due_times.items = rw (← c.self.view_is) at c.requires in
    record {
      few = rw (length-set c.self.inside.due_times.items c.args.c c.args.due) c.self.invariant.few;
      earliest =
          elim c.if-was_first.branch [
            | then-was_first w ↦ w.self-is ∙ w.earliest-self-inside.ensures ∙ ap least_time w.as_slice.ensures.value
            | else-was_first w ↦
                w.self-is ∙ w.lower-self-inside.ensures ∙ ap (λ (n : ℕ). lowered n c.args.due) c.self.invariant.earliest
                ∙ sym (least-set c.self.inside.due_times.items c.args.c c.index.result.now c.args.due
                (slice_get_read _ _ _ _ refl there c.index.ensures)
                (other-time _ _ _ c.self.invariant.earliest w.if-was_first.ensures) there)
          ];
    }

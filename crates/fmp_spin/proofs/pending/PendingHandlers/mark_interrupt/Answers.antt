use Rattle.std.proofs.Common.{◌≡◌, ◌<◌, ℕ, length, ◌∙◌, sym, arith, subst, ap, List, vec_len}
use Rattle.std.specs.Prelude.{slice_set, Option}
use Rattle.std.proofs.Math.ListN.{length-set}
use Rattle.fmp_spin.specs.Pending.{marks_view, processor_at_slot, mark_at_slot, AreBitmaps, IsSetAt}
use Rattle.fmp_spin.proofs.PendingLemmas.{AreBitmaps-set, mark-interrupt_same, mark-interrupt_other}
use Rattle.fmp_spin.proofs.PendingLemmas.{processor-interrupt, bitmap-there, marked-there, written_whole}
use Rattle.fmp_spin.proofs.pending.PendingHandlers.mark_interrupt.Goals as goal

pub set_slot-requires-clause-there : goal.set_slot-requires-clause-there
set_slot-requires-clause-there c =
    let there : c.args.i < length c.self.inside.interrupts.items = rw (← c.self.view_is) at c.requires in
    let is : processor_at_slot (marks_view c.self.inside).processors c.args.i ≡ c.index-processor.result.now =
    processor-interrupt c.self.inside.processors _ _ c.args.i _
    (omega (arith, c.self.invariant.interrupts, c.self.invariant.interrupt_processors))
    (omega (arith, c.self.invariant.interrupts)) c.index-processor.ensures in
    bitmap-there c.self.inside.processors _ _ (rw c.as_mut_slice.ensures.value c.self.invariant.words)
    (λ q e. c.self.invariant.there c.args.i q (is ∙ e))

pub set_slot-requires-clause-marked : goal.set_slot-requires-clause-marked
set_slot-requires-clause-marked c =
    let there : c.args.i < length c.self.inside.interrupts.items = rw (← c.self.view_is) at c.requires in
    let is : processor_at_slot (marks_view c.self.inside).processors c.args.i ≡ c.index-processor.result.now =
    processor-interrupt c.self.inside.processors _ _ c.args.i _
    (omega (arith, c.self.invariant.interrupts, c.self.invariant.interrupt_processors))
    (omega (arith, c.self.invariant.interrupts)) c.index-processor.ensures in
    marked-there c.self.inside.processors _ _ (rw c.as_mut_slice-2.ensures.value c.self.invariant.busy)
    (λ q e. c.self.invariant.there c.args.i q (is ∙ e))

pub set_slot-requires-clause-quiet : goal.set_slot-requires-clause-quiet
set_slot-requires-clause-quiet c = rw (c.as_mut_slice.ensures.value, c.as_mut_slice-2.ensures.value)
    c.self.invariant.quiet

pub invariant_of-self : goal.invariant_of-self
invariant_of-self c =
    let same : length c.set_slot.new.words ≡ length c.self.inside.words.items = c.set_slot.ensures.words
    ∙ ap length c.as_mut_slice.ensures.value in
    let all : vec_len c.self.inside.words ≡ length c.self.inside.words.items = sym c.as_mut_slice.ensures.len
    ∙ ap length c.as_mut_slice.ensures.value in
    let whole = written_whole c.self.inside.words.items c.set_slot.new.words (vec_len c.self.inside.words) same all in
    let same_marks : length c.set_slot.new.busy ≡ length c.self.inside.busy.items = c.set_slot.ensures.busy
    ∙ ap length c.as_mut_slice-2.ensures.value in
    let all_marks : vec_len c.self.inside.busy ≡ length c.self.inside.busy.items = sym c.as_mut_slice-2.ensures.len
    ∙ ap length c.as_mut_slice-2.ensures.value in
    let marks = written_whole c.self.inside.busy.items c.set_slot.new.busy
    (vec_len c.self.inside.busy) same_marks all_marks in
    let there : c.args.i < length c.self.inside.interrupts.items = rw (← c.self.view_is) at c.requires in
    let is : processor_at_slot (marks_view c.self.inside).processors c.args.i ≡ c.index-processor.result.now =
    processor-interrupt c.self.inside.processors _ _ c.args.i _
    (omega (arith, c.self.invariant.interrupts, c.self.invariant.interrupt_processors))
    (omega (arith, c.self.invariant.interrupts)) c.index-processor.ensures in
    record {
      interrupt_processors = c.self.invariant.interrupt_processors;
      interrupts = length-set c.self.inside.interrupts.items c.args.i c.args.pending ∙ c.self.invariant.interrupts;
      cyclics = c.self.invariant.cyclics;
      few = c.self.invariant.few;
      there = c.self.invariant.there;
      words = ap length whole ∙ same ∙ c.self.invariant.words;
      bitmaps =
          subst (λ (ws : List ℕ). AreBitmaps c.self.inside.processors ws
          (processor_at_slot (marks_view c.self.inside).processors)
          (mark_at_slot (slice_set c.self.inside.interrupts.items c.args.i c.args.pending) c.self.inside.cyclics.items))
          (sym whole)
          (AreBitmaps-set _ _ _ _ _ _ c.args.i c.args.pending c.self.invariant.bitmaps
          (subst (λ (x : Option ℕ). IsSetAt c.self.inside.words.items c.set_slot.new.words x c.args.i c.args.pending)
          (sym is) (rw c.as_mut_slice.ensures.value at c.set_slot.ensures.bits))
          (mark-interrupt_same c.self.inside.interrupts.items c.self.inside.cyclics.items c.args.i c.args.pending
          there (omega (arith, c.self.invariant.interrupts)))
          (mark-interrupt_other c.self.inside.interrupts.items c.self.inside.cyclics.items c.args.i c.args.pending));
      busy = ap length marks ∙ same_marks ∙ c.self.invariant.busy;
      quiet = rw (whole, marks) c.set_slot.ensures.quiet;
    }

use Rattle.std.proofs.Common.{◌≡◌, ◌<◌, ◌+◌, ℕ, length, ◌∙◌, sym, arith, subst, ap, List, vec_len}
use Rattle.std.specs.Prelude.{slice_set, Option, Some}
use Rattle.std.proofs.Math.ListN.{length-set}
use Rattle.fmp_spin.specs.Pending.{marks_view, processor_at_slot, mark_at_slot, AreBitmaps, IsSetAt}
use Rattle.fmp_spin.proofs.PendingLemmas.{AreBitmaps-set, mark-cyclic_same, mark-cyclic_other, processor-cyclic}
use Rattle.fmp_spin.proofs.PendingLemmas.{bitmap-there, marked-there, written_whole}
use Rattle.fmp_spin.proofs.pending.PendingHandlers.mark_cyclic.Goals as goal

pub set_slot-requires-clause-there : goal.set_slot-requires-clause-there
set_slot-requires-clause-there c =
    let there : c.args.c < length c.self.inside.cyclics.items = rw (← c.self.view_is) at c.requires in
    let is : processor_at_slot (marks_view c.self.inside).processors (64 + c.args.c) ≡ Some c.index.result.now =
    processor-cyclic c.self.inside.processors c.self.inside.interrupt_processors.items _ c.args.c _
    (omega (arith, c.self.invariant.cyclics)) c.index.ensures in
    bitmap-there c.self.inside.processors _ (Some c.index.result.now) (rw c.as_mut_slice.ensures.value
    c.self.invariant.words) (λ q e. c.self.invariant.there (64 + c.args.c) q (is ∙ e))

pub set_slot-requires-clause-marked : goal.set_slot-requires-clause-marked
set_slot-requires-clause-marked c =
    let there : c.args.c < length c.self.inside.cyclics.items = rw (← c.self.view_is) at c.requires in
    let is : processor_at_slot (marks_view c.self.inside).processors (64 + c.args.c) ≡ Some c.index.result.now =
    processor-cyclic c.self.inside.processors c.self.inside.interrupt_processors.items _ c.args.c _
    (omega (arith, c.self.invariant.cyclics)) c.index.ensures in
    marked-there c.self.inside.processors _ (Some c.index.result.now) (rw c.as_mut_slice-2.ensures.value
    c.self.invariant.busy) (λ q e. c.self.invariant.there (64 + c.args.c) q (is ∙ e))

pub set_slot-requires-clause-quiet : goal.set_slot-requires-clause-quiet
set_slot-requires-clause-quiet c = rw (c.as_mut_slice.ensures.value, c.as_mut_slice-2.ensures.value)
    c.self.invariant.quiet

pub invariant_of-self : goal.invariant_of-self
invariant_of-self c =
    let same : length c.set_slot.new.words ≡ length c.self.inside.words.items = c.set_slot.ensures.words
    ∙ ap length c.as_mut_slice.ensures.value in
    let all : vec_len c.self.inside.words ≡ length c.self.inside.words.items = sym c.as_mut_slice.ensures.len
    ∙ ap length c.as_mut_slice.ensures.value in
    let whole = written_whole c.self.inside.words.items c.set_slot.new.words (vec_len c.self.inside.words) same all in
    let same_marks : length c.set_slot.new.busy ≡ length c.self.inside.busy.items = c.set_slot.ensures.busy
    ∙ ap length c.as_mut_slice-2.ensures.value in
    let all_marks : vec_len c.self.inside.busy ≡ length c.self.inside.busy.items = sym c.as_mut_slice-2.ensures.len
    ∙ ap length c.as_mut_slice-2.ensures.value in
    let marks = written_whole c.self.inside.busy.items c.set_slot.new.busy
    (vec_len c.self.inside.busy) same_marks all_marks in
    let there : c.args.c < length c.self.inside.cyclics.items = rw (← c.self.view_is) at c.requires in
    let is : processor_at_slot (marks_view c.self.inside).processors (64 + c.args.c) ≡ Some c.index.result.now =
    processor-cyclic c.self.inside.processors c.self.inside.interrupt_processors.items _ c.args.c _
    (omega (arith, c.self.invariant.cyclics)) c.index.ensures in
    record {
      interrupt_processors = c.self.invariant.interrupt_processors;
      interrupts = c.self.invariant.interrupts;
      cyclics = length-set c.self.inside.cyclics.items c.args.c c.args.pending ∙ c.self.invariant.cyclics;
      few = rw (length-set c.self.inside.cyclics.items c.args.c c.args.pending) c.self.invariant.few;
      there = c.self.invariant.there;
      words = ap length whole ∙ same ∙ c.self.invariant.words;
      bitmaps =
          subst (λ (ws : List ℕ). AreBitmaps c.self.inside.processors ws
          (processor_at_slot (marks_view c.self.inside).processors)
          (mark_at_slot c.self.inside.interrupts.items (slice_set c.self.inside.cyclics.items c.args.c c.args.pending)))
          (sym whole)
          (AreBitmaps-set _ _ _ _ _ _ (64 + c.args.c) c.args.pending c.self.invariant.bitmaps
          (subst (λ (x : Option ℕ). IsSetAt c.self.inside.words.items c.set_slot.new.words x
          (64 + c.args.c) c.args.pending) (sym is) (rw c.as_mut_slice.ensures.value at c.set_slot.ensures.bits))
          (mark-cyclic_same c.self.inside.interrupts.items c.self.inside.cyclics.items c.args.c c.args.pending there)
          (mark-cyclic_other c.self.inside.interrupts.items c.self.inside.cyclics.items c.args.c c.args.pending));
      busy = ap length marks ∙ same_marks ∙ c.self.invariant.busy;
      quiet = rw (whole, marks) c.set_slot.ensures.quiet;
    }

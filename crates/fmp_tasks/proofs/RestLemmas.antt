-- A processor is at rest exactly where no handler is pending on it and it runs its most urgent ready task.
use Rattle.std.proofs.Common.{◌≡◌, ℕ, ◌<◌, Option, true, false, None, length, ap, ◌∙◌, sym, subst, arith}
use Rattle.std.specs.Prelude.{slice_index_or}
use Rattle.fmp_base.specs.Queues.{top}
use Rattle.fmp_base.specs.Settles.{is_same_task, pending_handler}
use Rattle.fmp_base.specs.States.{processor_at}
use Rattle.fmp_base.specs.Systems.{tables_of}
use Rattle.fmp_ready.specs.ReadyLists.{most_urgent}
use Rattle.fmp_spin.specs.Pending.{HandlerProcessors, first_handler}
use Rattle.fmp_spin.specs.PendingLaws.{first_handler-is}
use Rattle.fmp_tasks.specs.declared.kernel_state.KernelState.TheInside.{Inside}
use Rattle.fmp_tasks.specs.Marks.{IsAtRest}
use Rattle.fmp_tasks.specs.Tables.{IsWhole, tables_view}
use Rattle.fmp_tasks.proofs.SoundLemmas.{lists-enough, own_processors}
use Rattle.fmp_tasks.proofs.TopLemmas.{most_urgent-is}

quiet : (a : Inside) (p : ℕ) → IsWhole a → first_handler a.pending p
    ≡ pending_handler (tables_of a.system) (tables_view a).state p
quiet a p w =
    let is = w.pending_interrupts in
    let cs = w.pending_cyclics in
    ap (λ (on : HandlerProcessors). first_handler
    (record { processors = on; interrupts = a.pending.interrupts; cyclics = a.pending.cyclics }) p) w.handlers
    ∙ first_handler-is (tables_of a.system) (tables_view a).state p (omega (arith, is)) (omega (arith, cs))

urgent : (a : Inside) (p : ℕ) → IsWhole a → p < a.system.processors → most_urgent a.rings p
    ≡ top (tables_view a).state p
urgent a p w l =
    let there : p < a.waits.processors = subst (λ (n : ℕ). p < n) (sym (own_processors w.tasks ∙ w.tasks.processors))
    l in
    most_urgent-is a.waits (tables_of a.system) _ _ _ _ w.tasks.blocks w.tasks.kept there (lists-enough w.tasks)

pub unmarked_none : (a : Inside) (p : ℕ) → IsWhole a → p < a.system.processors → slice_index_or a.marks p true ≡ false
    → pending_handler (tables_of a.system) (tables_view a).state p ≡ None
unmarked_none a p w l e =
    let there : p < length a.processors = subst (λ (n : ℕ). p < n) (sym w.processors) l in
    sym (quiet a p w) ∙ (w.at_rest.each p there e).none

pub unmarked_same : (a : Inside) (p : ℕ) → IsWhole a → p < a.system.processors → slice_index_or a.marks p true ≡ false
    → is_same_task (processor_at (tables_view a).state p).run (top (tables_view a).state p) ≡ true
unmarked_same a p w l e =
    let there : p < length a.processors = subst (λ (n : ℕ). p < n) (sym w.processors) l in
    ap (λ (o : Option ℕ). is_same_task (processor_at (tables_view a).state p).run o) (sym (urgent a p w l))
    ∙ (w.at_rest.each p there e).same

pub resting : (a : Inside) (p : ℕ) → IsWhole a → p < a.system.processors
    → pending_handler (tables_of a.system) (tables_view a).state p ≡ None
    → is_same_task (processor_at (tables_view a).state p).run (top (tables_view a).state p) ≡ true
    → IsAtRest a.processors a.rings a.pending p
resting a p w l none same = record {
  none = quiet a p w ∙ none;
  same =
      ap (λ (o : Option ℕ). is_same_task (processor_at (tables_view a).state p).run o) (urgent a p w l)
      ∙ same;
}

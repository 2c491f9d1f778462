use Rattle.std.proofs.Common.{◌≡◌, ℕ, ℤ, List, Option, false, length, ap, ◌∙◌, sym, subst, arith}
use Rattle.std.proofs.lemmas.List.{length-map, length-replicate}
use Rattle.fmp_base.specs.declared.states.Processor.{Processor}
use Rattle.fmp_base.specs.Ranges.{IsInRange}
use Rattle.fmp_base.specs.Systems.{SystemTables, tables_of}
use Rattle.fmp_ring.specs.RingLists.{RingLists}
use Rattle.fmp_spin.specs.Pending.{PendingMarks, handler_processors}
use Rattle.fmp_tasks.specs.Tables.{Sound}
use Rattle.fmp_ticks.specs.ClockLaws.{NoneBefore-new}
use Rattle.fmp_tasks.proofs.MarkLemmas.{at_rest_all}
use Rattle.fmp_tasks.proofs.NewLemmas.{Sound-new}
use Rattle.fmp_tasks.proofs.RestartLemmas.{due_times_new}
use Rattle.fmp_tasks.proofs.kernel_state.KernelState.new.Goals as goal

pub invariant_of-result : goal.invariant_of-result
invariant_of-result c =
    let e : tables_of c.in_ok-system.system ≡ tables_of c.args.sys.now = c.in_ok-system.ensures in
    record {
      system = subst IsInRange (sym e) c.requires;
      tasks =
          subst (λ (s : SystemTables). Sound s c.in_ok-blocks.blocks.items c.new-2.result c.in_ok-queues.queues.0
          c.wait_queues-waits.result c.in_ok-queues.queues.1 c.in_ok-queues.queues.2) (sym e)
          (rw (
            c.in_ok-blocks.ensures,
            c.as_slice.ensures.value,
            c.new-2.ensures,
            c.in_ok-queues.ensures.ready,
            c.wait_queues-waits.ensures,
            c.in_ok-queues.ensures.rings,
            c.in_ok-queues.ensures.deadlines,
          ) (Sound-new (tables_of c.args.sys.now) c.requires));
      later = rw c.in_ok-queues.ensures.deadlines (NoneBefore-new _ _);
      semaphores = ap (λ (l : List ℕ). length l) c.in_ok-values.ensures.semaphores ∙ length-map _ _
          ∙ ap (λ (s : SystemTables). length s.semaphores) (sym e);
      flags = ap (λ (l : List ℕ). length l) c.in_ok-values.ensures.flags ∙ length-map _ _
          ∙ ap (λ (s : SystemTables). length s.flags) (sym e);
      data_queues = ap (λ (l : List (List ℤ)). length l) c.in_ok-contents.ensures.words ∙ length-replicate _ _
          ∙ ap (λ (s : SystemTables). length s.data_queues) (sym e);
      mailboxes = ap (λ (h : RingLists). length h.lists) c.in_ok-contents.ensures.mailboxes ∙ length-replicate _ _
          ∙ ap (λ (s : SystemTables). length s.mailboxes) (sym e);
      messages = ap (λ (h : RingLists). h.nodes) c.in_ok-contents.ensures.mailboxes
          ∙ ap (λ (s : SystemTables). length s.messages) (sym e);
      shared_words = ap (λ (l : List ℤ). length l) c.in_ok-values.ensures.shared_words ∙ length-map _ _
          ∙ ap (λ (s : SystemTables). length s.shared_words) (sym e);
      processors = ap (λ (l : List Processor). length l) c.in_ok-processors.ensures ∙ length-replicate _ _
          ∙ ap (λ (s : SystemTables). s.processors) (sym e);
      cyclics = ap (λ (l : List (Option ℕ)). length l) c.in_ok-handlers.ensures.due_times ∙ length-map _ _
          ∙ ap (λ (s : SystemTables). length s.cyclics) (sym e);
      due_later = rw c.in_ok-handlers.ensures.due_times (due_times_new _);
      handlers = ap (λ (h : PendingMarks). h.processors) c.in_ok-handlers.ensures.pending
          ∙ ap handler_processors (sym e);
      pending_cyclics = ap (λ (h : PendingMarks). length h.cyclics) c.in_ok-handlers.ensures.pending
          ∙ length-replicate _ _ ∙ ap (λ (s : SystemTables). length s.cyclics) (sym e);
      pending_interrupts = ap (λ (h : PendingMarks). length h.interrupts) c.in_ok-handlers.ensures.pending
          ∙ length-replicate 32 false;
      clock = omega arith;
      at_rest = rw c.all.ensures (at_rest_all _ _ _);
    }

pub wait_queues-waits-requires : goal.wait_queues-waits-requires
wait_queues-waits-requires c = c.requires

pub empty_queues-requires-clause-range : goal.empty_queues-requires-clause-range
empty_queues-requires-clause-range c = c.requires

pub empty_queues-requires-clause-waits : goal.empty_queues-requires-clause-waits
empty_queues-requires-clause-waits c = c.wait_queues-waits.ensures

pub empty_contents-requires : goal.empty_contents-requires
empty_contents-requires c = c.requires

pub idle_handlers-requires : goal.idle_handlers-requires
idle_handlers-requires c = c.requires

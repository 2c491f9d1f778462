use Rattle.std.proofs.Common.{◌≡◌, ◌<◌, None, true}
use Rattle.fmp_base.specs.Queues.{top}
use Rattle.fmp_base.specs.Settles.{is_same_task, pending_handler}
use Rattle.fmp_base.specs.States.{processor_at}
use Rattle.fmp_base.specs.Systems.{tables_of}
use Rattle.fmp_tasks.specs.Tables.{tables_view}
use Rattle.fmp_tasks.proofs.MarkLemmas.{at_rest_unmarked}
use Rattle.fmp_tasks.proofs.RestLemmas.{resting}
use Rattle.fmp_tasks.proofs.kernel_state.KernelState.unmark.Goals as goal

pub invariant_of-self : goal.invariant_of-self
invariant_of-self c =
    let a = c.self.inside in
    let l : c.args.p < a.system.processors = rw (← c.self.view_is) at c.requires.there in
    let none : pending_handler (tables_of a.system) (tables_view a).state c.args.p ≡ None =
    rw (← c.self.view_is) at c.requires.none in
    let same : is_same_task (processor_at (tables_view a).state c.args.p).run (top (tables_view a).state c.args.p)
    ≡ true =
    rw (← c.self.view_is) at c.requires.same in
    record {
      system = c.self.invariant.system;
      later = c.self.invariant.later;
      tasks = c.self.invariant.tasks;
      semaphores = c.self.invariant.semaphores;
      flags = c.self.invariant.flags;
      data_queues = c.self.invariant.data_queues;
      mailboxes = c.self.invariant.mailboxes;
      messages = c.self.invariant.messages;
      shared_words = c.self.invariant.shared_words;
      processors = c.self.invariant.processors;
      cyclics = c.self.invariant.cyclics;
      due_later = c.self.invariant.due_later;
      handlers = c.self.invariant.handlers;
      pending_cyclics = c.self.invariant.pending_cyclics;
      pending_interrupts = c.self.invariant.pending_interrupts;
      clock = c.self.invariant.clock;
      at_rest =
          rw c.unmark.ensures
          (at_rest_unmarked _ _ _ _ c.args.p c.self.invariant.at_rest (resting a c.args.p c.self.invariant l none
          same));
    }

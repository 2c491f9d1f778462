use Rattle.std.proofs.Common.{◌+◌, List, Option, ℕ, ap, ◌∙◌, arith}
use Rattle.fmp_ticks.specs.Times.{first_due}
use Rattle.fmp_ticks.specs.ClockLaws.{NoneBefore-next}
use Rattle.fmp_tasks.proofs.kernel_state.KernelState.advance.Goals as goal

pub invariant_of-self : goal.invariant_of-self
invariant_of-self c =
    let time = rw (← c.self.view_is) at c.requires.time in
    let none = rw (← c.self.view_is) at c.requires.none_due in
    let no_cyclic = rw (← c.self.view_is) at c.requires.no_cyclic_due in
    record {
      system = c.self.invariant.system;
      later = NoneBefore-next _ _ (ap (λ (ds : List (Option ℕ)). first_due (c.self.inside.clock + 1) ds)
          c.self.invariant.tasks.deadlines_kept ∙ none) c.self.invariant.later;
      tasks = c.self.invariant.tasks;
      semaphores = c.self.invariant.semaphores;
      flags = c.self.invariant.flags;
      data_queues = c.self.invariant.data_queues;
      mailboxes = c.self.invariant.mailboxes;
      messages = c.self.invariant.messages;
      shared_words = c.self.invariant.shared_words;
      processors = c.self.invariant.processors;
      cyclics = c.self.invariant.cyclics;
      due_later = NoneBefore-next _ _ no_cyclic c.self.invariant.due_later;
      handlers = c.self.invariant.handlers;
      pending_cyclics = c.self.invariant.pending_cyclics;
      pending_interrupts = c.self.invariant.pending_interrupts;
      clock = omega arith;
      at_rest = c.self.invariant.at_rest;
    }

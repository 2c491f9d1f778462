use Rattle.std.proofs.Common.{◌∙◌, List, Option, ap, length, ℕ}
use Rattle.std.specs.Prelude.{IfSome, ◌+◌, ◌≤◌}
use Rattle.std.proofs.Math.ListN.{length-set}
use Rattle.fmp_ticks.specs.ClockLaws.{NoneBefore-set}
use Rattle.fmp_tasks.proofs.kernel_state.KernelState.set_due.Goals as goal

pub invariant_of-self : goal.invariant_of-self
invariant_of-self c =
    let after : IfSome c.args.due (λ w. c.self.inside.clock + 1 ≤ w) = rw (← c.self.view_is) at c.requires.later in
    record {
      system = c.self.invariant.system;
      later = c.self.invariant.later;
      tasks = c.self.invariant.tasks;
      semaphores = c.self.invariant.semaphores;
      flags = c.self.invariant.flags;
      data_queues = c.self.invariant.data_queues;
      mailboxes = c.self.invariant.mailboxes;
      messages = c.self.invariant.messages;
      shared_words = c.self.invariant.shared_words;
      processors = c.self.invariant.processors;
      cyclics =
          ap (λ (ts : List (Option ℕ)). length ts) c.set_due_time.ensures
          ∙ length-set c.self.inside.cyclics c.args.c c.args.due ∙ c.self.invariant.cyclics;
      due_later = rw c.set_due_time.ensures (NoneBefore-set _ _ _ _ after c.self.invariant.due_later);
      handlers = c.self.invariant.handlers;
      pending_cyclics = c.self.invariant.pending_cyclics;
      pending_interrupts = c.self.invariant.pending_interrupts;
      clock = c.self.invariant.clock;
      at_rest = c.self.invariant.at_rest;
    }

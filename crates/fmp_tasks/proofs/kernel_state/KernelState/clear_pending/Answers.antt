use Rattle.std.proofs.Common.{◌∙◌, ap, length}
use Rattle.fmp_spin.specs.Pending.{PendingMarks}
use Rattle.fmp_tasks.proofs.ClearLemmas.{at_rest_cleared, cleared_cyclics, cleared_interrupts, cleared_processors}
use Rattle.fmp_tasks.proofs.kernel_state.KernelState.clear_pending.Goals as goal

pub invariant_of-self : goal.invariant_of-self
invariant_of-self c =
    record {
      system = c.self.invariant.system;
      later = c.self.invariant.later;
      tasks = c.self.invariant.tasks;
      semaphores = c.self.invariant.semaphores;
      flags = c.self.invariant.flags;
      data_queues = c.self.invariant.data_queues;
      mailboxes = c.self.invariant.mailboxes;
      messages = c.self.invariant.messages;
      shared_words = c.self.invariant.shared_words;
      processors = c.self.invariant.processors;
      cyclics = c.self.invariant.cyclics;
      due_later = c.self.invariant.due_later;
      handlers =
          ap (λ (m : PendingMarks). m.processors) c.clear.ensures
          ∙ cleared_processors c.self.inside.pending c.args.h ∙ c.self.invariant.handlers;
      pending_cyclics =
          ap (λ (m : PendingMarks). length m.cyclics) c.clear.ensures
          ∙ cleared_cyclics c.self.inside.pending c.args.h ∙ c.self.invariant.pending_cyclics;
      pending_interrupts =
          ap (λ (m : PendingMarks). length m.interrupts) c.clear.ensures
          ∙ cleared_interrupts c.self.inside.pending c.args.h ∙ c.self.invariant.pending_interrupts;
      clock = c.self.invariant.clock;
      at_rest =
          rw c.clear.ensures
          (at_rest_cleared _ _ _ _ c.args.h c.self.invariant.at_rest);
    }

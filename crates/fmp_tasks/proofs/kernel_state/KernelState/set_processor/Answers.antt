use Rattle.std.proofs.Common.{◌∙◌, ap, length, List}
use Rattle.std.proofs.Math.ListN.{length-set}
use Rattle.fmp_base.specs.declared.states.Processor.{Processor}
use Rattle.fmp_tasks.proofs.MarkLemmas.{at_rest_set}
use Rattle.fmp_tasks.proofs.kernel_state.KernelState.set_processor.Goals as goal

pub invariant_of-self : goal.invariant_of-self
invariant_of-self c =
    record {
      system = c.self.invariant.system;
      later = c.self.invariant.later;
      tasks = c.self.invariant.tasks;
      semaphores = c.self.invariant.semaphores;
      flags = c.self.invariant.flags;
      data_queues = c.self.invariant.data_queues;
      mailboxes = c.self.invariant.mailboxes;
      messages = c.self.invariant.messages;
      shared_words = c.self.invariant.shared_words;
      processors =
          ap (λ (cpus : List Processor). length cpus) c.set.ensures
          ∙ length-set c.self.inside.processors c.args.p c.args.x
          ∙ c.self.invariant.processors;
      cyclics = c.self.invariant.cyclics;
      due_later = c.self.invariant.due_later;
      handlers = c.self.invariant.handlers;
      pending_cyclics = c.self.invariant.pending_cyclics;
      pending_interrupts = c.self.invariant.pending_interrupts;
      clock = c.self.invariant.clock;
      at_rest =
          rw (c.mark.ensures, c.set.ensures)
          (at_rest_set _ _ _ _ c.args.p c.args.x c.self.invariant.at_rest);
    }

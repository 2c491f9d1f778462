use Rattle.std.proofs.Common.{◌<◌, length, subst, ℕ}
use Rattle.std.specs.Prelude.{IfSome, ◌+◌, ◌≤◌}
use Rattle.fmp_ticks.specs.ClockLaws.{NoneBefore-set}
use Rattle.fmp_base.specs.States.{task_at}
use Rattle.fmp_base.specs.Systems.{tables_of}
use Rattle.fmp_tasks.specs.Homes.{Fits, Stays}
use Rattle.fmp_tasks.proofs.SoundLemmas.{Sound-stays}
use Rattle.fmp_tasks.proofs.kernel_state.KernelState.set_task.Goals as goal

pub invariant_of-self : goal.invariant_of-self
invariant_of-self c =
    let there : c.args.t < length c.self.inside.system.tasks.items = rw (← c.self.view_is) at c.requires.there in
    let l : c.args.t < length c.self.inside.blocks.items = subst (λ (n : ℕ). c.args.t < n)
    c.self.invariant.tasks.configs there in
    let f : Fits (tables_of c.self.inside.system) c.args.x = rw (← c.self.view_is) at c.requires.fits in
    let s : Stays (tables_of c.self.inside.system) (task_at c.self.inside.blocks.items c.args.t) c.args.x = rw
    (← c.self.view_is) at c.requires.stays in
    let after : IfSome c.args.x.deadline (λ w. c.self.inside.clock + 1 ≤ w) = rw
    (← c.self.view_is) at c.requires.later in
    record {
      system = c.self.invariant.system;
      later = rw c.set_deadline.ensures (NoneBefore-set _ _ _ _ after c.self.invariant.later);
      tasks =
          rw (c.set_deadline.ensures)
          (Sound-stays c.self.invariant.tasks c.args.t c.args.x l f s);
      semaphores = c.self.invariant.semaphores;
      flags = c.self.invariant.flags;
      data_queues = c.self.invariant.data_queues;
      mailboxes = c.self.invariant.mailboxes;
      messages = c.self.invariant.messages;
      shared_words = c.self.invariant.shared_words;
      processors = c.self.invariant.processors;
      cyclics = c.self.invariant.cyclics;
      due_later = c.self.invariant.due_later;
      handlers = c.self.invariant.handlers;
      pending_cyclics = c.self.invariant.pending_cyclics;
      pending_interrupts = c.self.invariant.pending_interrupts;
      clock = c.self.invariant.clock;
      at_rest = c.self.invariant.at_rest;
    }

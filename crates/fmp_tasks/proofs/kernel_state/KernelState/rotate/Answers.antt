use Rattle.std.proofs.Common.{◌≡◌, ◌<◌, ◌∙◌, List, Option, Some, length, ap, subst, sym, ℕ, true}
use Rattle.fmp_base.specs.declared.states.TaskBlock.{TaskBlock}
use Rattle.fmp_base.specs.Queues.{is_ready, first_of, first_ready}
use Rattle.fmp_base.specs.States.{task_at, with_last}
use Rattle.fmp_base.specs.Systems.{tables_of}
use Rattle.fmp_base.specs.TaskCalls.{rotated}
use Rattle.fmp_tasks.specs.Tables.{TablesView, tables_view}
use Rattle.fmp_tasks.proofs.MarkLemmas.{at_rest_queue}
use Rattle.fmp_tasks.proofs.RotateLemmas.{Sound-rotated, set-task_at}
use Rattle.fmp_tasks.proofs.SoundLemmas.{lists-enough, own_processors}
use Rattle.fmp_tasks.proofs.TopLemmas.{ready_list}
use Rattle.fmp_tasks.proofs.kernel_state.KernelState.rotate.Goals as goal

pub invariant_of-self : goal.invariant_of-self
invariant_of-self c =
    let tasks = c.self.invariant.tasks in
    let t : ℕ = c.in-Some.t in
    let p : c.args.p < c.self.inside.system.processors = rw (← c.self.view_is) at c.requires.processor in
    let there : c.args.p < c.self.inside.waits.processors = subst (λ (n : ℕ). c.args.p < n)
    (sym (own_processors tasks ∙ tasks.processors)) p in
    let known : t < length c.self.inside.system.tasks.items = rw (← c.self.view_is) at c.in-Some.ensures.there in
    let l : t < length c.self.inside.blocks.items = subst (λ (n : ℕ). t < n) tasks.configs known in
    let able : is_ready (task_at c.self.inside.blocks.items t)
    ≡ true = rw (← c.self.view_is) at c.in-Some.ensures.ready in
    let first : Some t ≡ first_ready (tables_view c.self.inside).state c.args.p c.args.priority = rw
    (← c.self.view_is) at c.in-Some.ensures.value in
    let list = ready_list c.self.inside.waits (tables_of c.self.inside.system) _ _ _ c.args.p c.args.priority
    tasks.blocks tasks.kept there
    c.requires.urgent c.requires.least (lists-enough tasks) in
    record {
      system = c.self.invariant.system;
      later = c.self.invariant.later;
      tasks =
          rw c.to_end.ensures
          (Sound-rotated tasks c.args.p c.args.priority t there c.requires.urgent c.requires.least c.rotate.new.rings
          l able
          (first ∙ ap first_of (sym list)) c.rotate.ensures.rings c.rotate.ensures.exact);
      semaphores = c.self.invariant.semaphores;
      flags = c.self.invariant.flags;
      data_queues = c.self.invariant.data_queues;
      mailboxes = c.self.invariant.mailboxes;
      messages = c.self.invariant.messages;
      shared_words = c.self.invariant.shared_words;
      processors = c.self.invariant.processors;
      cyclics = c.self.invariant.cyclics;
      due_later = c.self.invariant.due_later;
      handlers = c.self.invariant.handlers;
      pending_cyclics = c.self.invariant.pending_cyclics;
      pending_interrupts = c.self.invariant.pending_interrupts;
      clock = c.self.invariant.clock;
      at_rest =
          rw (c.mark.ensures, c.rotate.ensures.rings)
          (at_rest_queue _ _ _ _ c.args.p c.args.priority _ c.self.invariant.at_rest c.requires.urgent
          c.requires.least);
    }

pub returns-in-Some : goal.returns-in-Some
returns-in-Some c =
    let t : ℕ = c.in-Some.t in
    let v : TablesView = tables_view c.self.inside in
    rw c.to_end.ensures
    (ap (λ (xs : List TaskBlock). record v {
      state = record (with_last v.state t
          (task_at v.state.tasks t)) { tasks = xs };
    })
    (sym (set-task_at c.self.inside.blocks.items t))
    ∙ ap (λ (w : TablesView). record w { state = rotated w.state (Some t) }) c.self.view_is
    ∙ ap (λ (o : Option ℕ). record c.args.self.now { state = rotated c.args.self.now.state o }) c.in-Some.ensures.value)

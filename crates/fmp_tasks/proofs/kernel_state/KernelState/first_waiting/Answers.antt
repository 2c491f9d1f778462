use Rattle.std.proofs.Common.{ap, ◌∙◌, subst, sym}
use Rattle.fmp_base.specs.Queues.{first_of}
use Rattle.fmp_base.specs.Systems.{tables_of}
use Rattle.fmp_waitq.specs.declared.queues.ObjectCounts.{ObjectCounts}
use Rattle.fmp_waitq.specs.WaitLists.{IsThere}
use Rattle.fmp_tasks.specs.Homes.{counts_of}
use Rattle.fmp_tasks.proofs.SoundLemmas.{lent, own_counts, wait_list}
use Rattle.fmp_tasks.proofs.kernel_state.KernelState.first_waiting.Goals as goal

pub first-requires : goal.first-requires
first-requires c =
    let tasks = c.self.invariant.tasks in
    let q : IsThere (counts_of (tables_of c.self.inside.system)) c.args.queue = rw (← c.self.view_is) at c.requires in
    record {
      lent = lent tasks;
      queue = subst (λ (n : ObjectCounts). IsThere n c.args.queue) (sym
          (own_counts tasks)) q;
    }

pub returns-clause-value : goal.returns-clause-value
returns-clause-value c =
    let tasks = c.self.invariant.tasks in
    let q : IsThere (counts_of (tables_of c.self.inside.system)) c.args.queue = rw (← c.self.view_is) at c.requires in
    let there : IsThere c.self.inside.waits.counts c.args.queue = subst (λ (n : ObjectCounts). IsThere n c.args.queue)
    (sym (own_counts tasks)) q in
    rw (← c.self.view_is) (c.first.ensures.value ∙ ap first_of (wait_list tasks c.args.queue there))

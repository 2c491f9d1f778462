use Rattle.std.proofs.Common.{◌≡◌, ap, ◌∙◌, subst, sym, true, nat_eq, ℕ, List}
use Rattle.std.specs.Prelude.{filter}
use Rattle.std.specs.List.{list_any}
use Rattle.fmp_base.specs.Queues.{arranged, order_of, priority_in, waits_in}
use Rattle.fmp_base.specs.States.{task_at}
use Rattle.fmp_base.specs.Systems.{tables_of}
use Rattle.fmp_ring.specs.Orders.{IsOrder}
use Rattle.fmp_ring.specs.RingLists.{follower}
use Rattle.fmp_waitq.specs.declared.queues.ObjectCounts.{ObjectCounts}
use Rattle.fmp_waitq.specs.WaitLists.{IsThere}
use Rattle.fmp_tasks.specs.Homes.{counts_of}
use Rattle.fmp_tasks.proofs.OnceLemmas.{IsOrder-queue}
use Rattle.fmp_tasks.proofs.SoundLemmas.{lent, own_counts, wait_list}
use Rattle.fmp_tasks.proofs.kernel_state.KernelState.waiting_behind.Goals as goal

pub next-requires : goal.next-requires
next-requires c =
    let tasks = c.self.invariant.tasks in
    let q : IsThere (counts_of (tables_of c.self.inside.system)) c.args.queue = rw
    (← c.self.view_is) at c.requires.queue in
    let there : IsThere c.self.inside.waits.counts c.args.queue = subst (λ (n : ObjectCounts). IsThere n c.args.queue)
    (sym (own_counts tasks)) q in
    let waits : list_any (nat_eq c.args.t) (arranged (order_of (tables_of c.self.inside.system) c.args.queue)
    (priority_in c.self.inside.blocks.items)
    (filter (λ t. waits_in c.args.queue (task_at c.self.inside.blocks.items t)) c.self.inside.order))
    ≡ true =
    rw (← c.self.view_is) at c.requires.waits in
    record {
      lent = lent tasks;
      there = subst (λ (l : List ℕ). list_any (nat_eq c.args.t) l
          ≡ true) (sym (wait_list tasks c.args.queue there)) waits;
    }

pub returns-clause-value : goal.returns-clause-value
returns-clause-value c =
    let tasks = c.self.invariant.tasks in
    let q : IsThere (counts_of (tables_of c.self.inside.system)) c.args.queue = rw
    (← c.self.view_is) at c.requires.queue in
    let there : IsThere c.self.inside.waits.counts c.args.queue = subst (λ (n : ObjectCounts). IsThere n c.args.queue)
    (sym (own_counts tasks)) q in
    rw (← c.self.view_is) (c.next.ensures.value ∙ ap (follower c.args.t) (wait_list tasks c.args.queue there))

pub returns-clause-order : goal.returns-clause-order
returns-clause-order c =
    let tasks = c.self.invariant.tasks in
    rw (← c.self.view_is)
    (subst (λ (n : ℕ). IsOrder n (arranged (order_of (tables_of c.self.inside.system) c.args.queue)
    (priority_in c.self.inside.blocks.items) (filter (λ t. waits_in c.args.queue (task_at c.self.inside.blocks.items t))
    c.self.inside.order))) (sym tasks.configs)
    (IsOrder-queue _ _ _ _ _ tasks.distinct))

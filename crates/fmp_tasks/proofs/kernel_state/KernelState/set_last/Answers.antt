use Rattle.std.proofs.Common.{◌≡◌, ◌<◌, ◌∙◌, length, subst, sym, ℕ, arith}
use Rattle.std.specs.Prelude.{false, slice_set, IfSome, ◌+◌, ◌≤◌}
use Rattle.std.proofs.Math.ListN.{length-set}
use Rattle.fmp_base.specs.declared.states.TaskBlock.{TaskBlock}
use Rattle.fmp_base.specs.Queues.{queue_of}
use Rattle.fmp_base.specs.States.{task_at}
use Rattle.fmp_base.specs.Systems.{tables_of}
use Rattle.fmp_ring.specs.RingLists.{is_linked}
use Rattle.fmp_ticks.specs.ClockLaws.{NoneBefore-set}
use Rattle.fmp_waitq.specs.declared.queues.ObjectCounts.{ObjectCounts}
use Rattle.fmp_tasks.specs.Homes.{Fits, IsAmong, IsSomeThere, home, left_from}
use Rattle.fmp_tasks.specs.Joining.{AreOrdered}
use Rattle.fmp_tasks.proofs.MarkLemmas.{at_rest_joined, at_rest_left}
use Rattle.fmp_tasks.proofs.OrderedLemmas.{ordered-left}
use Rattle.fmp_tasks.proofs.SoundLemmas.{Sound-last, home-among, home-free, lent, own_counts, own_processors, read-at}
use Rattle.fmp_tasks.proofs.TopLemmas.{Fits-at}
use Rattle.fmp_tasks.proofs.kernel_state.KernelState.set_last.Goals as goal

pub leave-requires : goal.leave-requires
leave-requires c =
    let tasks = c.self.invariant.tasks in
    let there : c.args.t < length c.self.inside.system.tasks.items = rw (← c.self.view_is) at c.requires.there in
    let l : c.args.t < length c.self.inside.blocks.items = subst (λ (n : ℕ). c.args.t < n) tasks.configs there in
    let is : task_at c.self.inside.blocks.items c.args.t ≡ c.index-2.result.now = read-at _ _ _ l c.index-2.ensures in
    let old : Fits (tables_of c.self.inside.system) c.index-2.result.now = subst
    (Fits (tables_of c.self.inside.system)) is (Fits-at c.args.t tasks.blocks l) in
    record {
      urgent = old.urgent;
      least = old.least;
      processor = subst (λ (n : ℕ). c.index-2.result.now.processor < n) (sym tasks.processors) old.processor;
      processors = own_processors tasks;
      exact = tasks.exact;
      lent = lent tasks;
      queue = subst (λ (n : ObjectCounts). IsSomeThere n (queue_of c.index-2.result.now.phase))
          (sym (own_counts tasks)) old.queue;
      there = subst (λ (x : TaskBlock). IsAmong c.args.t c.self.inside.rings.lists (home c.self.inside.waits x)) is
          (home-among tasks c.args.t l);
    }

pub join-requires : goal.join-requires
join-requires c =
    let tasks = c.self.invariant.tasks in
    let there : c.args.t < length c.self.inside.system.tasks.items = rw (← c.self.view_is) at c.requires.there in
    let l : c.args.t < length c.self.inside.blocks.items = subst (λ (n : ℕ). c.args.t < n) tasks.configs there in
    let f : Fits (tables_of c.self.inside.system) c.args.x.now = rw (← c.self.view_is) at c.requires.fits in
    let is : task_at c.self.inside.blocks.items c.args.t ≡ c.index-2.result.now = read-at _ _ _ l c.index-2.ensures in
    let free : is_linked c.args.t (left_from c.self.inside.rings.lists (home c.self.inside.waits c.index-2.result.now)
    c.args.t) ≡ false =
    subst (λ (x : TaskBlock). is_linked c.args.t (left_from c.self.inside.rings.lists
    (home c.self.inside.waits x) c.args.t) ≡ false) is (home-free tasks c.args.t) in
    let ordered = subst (λ (y : TaskBlock). AreOrdered c.self.inside.waits (tables_of c.self.inside.system)
    (slice_set c.self.inside.blocks.items c.args.t c.args.x.now)
    (record c.self.inside.rings { lists = left_from c.self.inside.rings.lists (home c.self.inside.waits y) c.args.t })
    c.args.t) is
    (ordered-left _ _ _ _ _ _ _ tasks c.args.t c.args.x.now l f) in
    record {
      urgent = f.urgent;
      least = f.least;
      processor = subst (λ (n : ℕ). c.args.x.now.processor < n) (sym (c.leave.ensures.processors ∙ tasks.processors))
          f.processor;
      processors = own_processors tasks ∙ sym c.leave.ensures.processors;
      exact = c.leave.ensures.exact;
      lent = c.leave.ensures.lent;
      counts = own_counts tasks;
      queue = subst (λ (n : ObjectCounts). IsSomeThere n (queue_of c.args.x.now.phase))
          (sym (own_counts tasks)) f.queue;
      task = rw (c.leave.ensures.rings, tasks.nodes) l;
      there = rw (c.as_slice.ensures.value, length-set) l;
      ordered = rw (c.leave.ensures.rings, c.as_slice.ensures.value) ordered;
      free = rw c.leave.ensures.rings free;
    }

pub invariant_of-self : goal.invariant_of-self
invariant_of-self c =
    let tasks = c.self.invariant.tasks in
    let there : c.args.t < length c.self.inside.system.tasks.items = rw (← c.self.view_is) at c.requires.there in
    let l : c.args.t < length c.self.inside.blocks.items = subst (λ (n : ℕ). c.args.t < n) tasks.configs there in
    let f : Fits (tables_of c.self.inside.system) c.args.x.now = rw (← c.self.view_is) at c.requires.fits in
    let is : task_at c.self.inside.blocks.items c.args.t ≡ c.index-2.result.now = read-at _ _ _ l c.index-2.ensures in
    let after : IfSome c.args.x.now.deadline (λ w. c.self.inside.clock + 1 ≤ w) = rw
    (← c.self.view_is) at c.requires.later in
    let moved = rw (c.leave.ensures.rings, c.as_slice.ensures.value) at c.join.ensures.rings in
    let old : Fits (tables_of c.self.inside.system) c.index-2.result.now = subst
    (Fits (tables_of c.self.inside.system)) is (Fits-at c.args.t tasks.blocks l) in
    let own : c.index.result.now ≡ c.index-2.result.now = sym (read-at _ _ _ l c.index.ensures) ∙ is in
    let many : c.self.inside.waits.processors ≡ length c.self.inside.processors = own_processors tasks
    ∙ tasks.processors ∙ sym c.self.invariant.processors in
    record {
      system = c.self.invariant.system;
      later = rw c.set_deadline.ensures (NoneBefore-set _ _ _ _ after c.self.invariant.later);
      tasks =
          rw (c.to_end.ensures, c.set_deadline.ensures)
          (Sound-last tasks c.args.t c.args.x.now l f c.index-2.result.now c.join.new.ready c.join.new.rings
          c.requires.in_order is
          (c.join.ensures.processors ∙ c.leave.ensures.processors) c.join.ensures.exact moved);
      semaphores = c.self.invariant.semaphores;
      flags = c.self.invariant.flags;
      data_queues = c.self.invariant.data_queues;
      mailboxes = c.self.invariant.mailboxes;
      messages = c.self.invariant.messages;
      shared_words = c.self.invariant.shared_words;
      processors = c.self.invariant.processors;
      cyclics = c.self.invariant.cyclics;
      due_later = c.self.invariant.due_later;
      handlers = c.self.invariant.handlers;
      pending_cyclics = c.self.invariant.pending_cyclics;
      pending_interrupts = c.self.invariant.pending_interrupts;
      clock = c.self.invariant.clock;
      at_rest =
          rw (c.mark-2.ensures, c.mark.ensures, own, moved)
          (at_rest_joined _ _ _ _ _ _ c.self.inside.waits _ c.args.x.now c.args.t
          (at_rest_left _ _ _ _ c.self.inside.waits _ c.index-2.result.now c.args.t c.self.invariant.at_rest many
          old) many f);
    }

pub mark-requires : goal.mark-requires
mark-requires c =
    let tasks = c.self.invariant.tasks in
    let there : c.args.t < length c.self.inside.system.tasks.items = rw (← c.self.view_is) at c.requires.there in
    let l : c.args.t < length c.self.inside.blocks.items = subst (λ (n : ℕ). c.args.t < n) tasks.configs there in
    let is : task_at c.self.inside.blocks.items c.args.t ≡ c.index.result.now = read-at _ _ _ l c.index.ensures in
    let old : Fits (tables_of c.self.inside.system) c.index.result.now = subst
    (Fits (tables_of c.self.inside.system)) is (Fits-at c.args.t tasks.blocks l) in
    let few : (tables_of c.self.inside.system).processors ≤ 8 = c.self.invariant.system.processors.most in
    let low : c.index.result.now.processor < (tables_of c.self.inside.system).processors = old.processor in
    omega (arith, few, low)

use Rattle.std.proofs.Common.{◌≡◌, ◌∙◌, ◌+◌, List, Option, ap, arith, length, map, subst, sym, ℕ}
use Rattle.std.specs.Vec.{with_items}
use Rattle.std.proofs.lemmas.List.{length-map, with_items_is}
use Rattle.fmp_base.specs.declared.states.TaskBlock.{TaskBlock}
use Rattle.fmp_base.specs.Systems.{tables_of}
use Rattle.fmp_ticks.specs.Times.{NoneBefore}
use Rattle.fmp_tasks.specs.Restarts.{with_time_left, time_left}
use Rattle.fmp_tasks.proofs.RestartLemmas.{Sound-restarted, deadlines_left, times_later}
use Rattle.fmp_tasks.proofs.kernel_state.KernelState.restart_clock.Goals as goal

pub invariant_of-self : goal.invariant_of-self
invariant_of-self c =
    let a = c.self.inside in
    let before = c.self.invariant in
    let now : ℕ = a.clock in
    let first : List TaskBlock = c.as_mut_slice.result.now in
    let blocks : List TaskBlock = c.restart_blocks.new.blocks in
    let read : first ≡ a.blocks.items = c.as_mut_slice.ensures.value in
    let written : blocks ≡ map (with_time_left now) a.blocks.items =
    c.restart_blocks.ensures ∙ ap (λ (xs : List TaskBlock). map (with_time_left now) xs) read in
    let same : length blocks ≡ length first =
    ap (λ (xs : List TaskBlock). length xs) c.restart_blocks.ensures ∙ length-map first (with_time_left now) in
    let wide : length blocks ≡ a.blocks.len = omega (arith, same, c.as_mut_slice.ensures.len) in
    let items : (with_items a.blocks blocks).items ≡ map (with_time_left now) a.blocks.items =
    with_items_is a.blocks blocks wide ∙ written in
    let deadlines : c.restart_deadlines.new.deadlines
    ≡ map (λ (x : TaskBlock). x.deadline) (map (with_time_left now) a.blocks.items) =
    c.restart_deadlines.ensures
    ∙ ap (λ (xs : List TaskBlock). map (λ (x : TaskBlock). x.deadline) xs) (c.as_slice.ensures.value ∙ items) in
    let left : c.restart_deadlines.new.deadlines ≡ map (time_left now) a.deadlines =
    deadlines ∙ deadlines_left now a.blocks.items
    ∙ ap (λ (ts : List (Option ℕ)). map (time_left now) ts) (sym before.tasks.deadlines_kept) in
    record {
      system = before.system;
      later =
          subst (λ (ts : List (Option ℕ)). NoneBefore 1 ts) (sym left)
          (times_later now a.deadlines before.later);
      tasks =
          rw (items, deadlines)
          (Sound-restarted (tables_of a.system) a.blocks.items a.order a.ready a.waits a.rings a.deadlines now
          before.tasks);
      semaphores = before.semaphores;
      flags = before.flags;
      data_queues = before.data_queues;
      mailboxes = before.mailboxes;
      messages = before.messages;
      shared_words = before.shared_words;
      processors = before.processors;
      cyclics =
          ap (λ (ts : List (Option ℕ)). length ts) c.restart_due_times.ensures
          ∙ length-map a.cyclics (time_left now) ∙ before.cyclics;
      due_later =
          subst (λ (ts : List (Option ℕ)). NoneBefore 1 ts) (sym c.restart_due_times.ensures)
          (times_later now a.cyclics before.due_later);
      handlers = before.handlers;
      pending_cyclics = before.pending_cyclics;
      pending_interrupts = before.pending_interrupts;
      clock = omega arith;
      at_rest = before.at_rest;
    }

pub returns-clause-deadlines : goal.returns-clause-deadlines
returns-clause-deadlines c =
    rw (← c.self.view_is)
    (subst (λ (ts : List (Option ℕ)). NoneBefore (c.self.inside.clock + 1) ts)
    c.self.invariant.tasks.deadlines_kept c.self.invariant.later)

pub returns-clause-due_times : goal.returns-clause-due_times
returns-clause-due_times c = rw (← c.self.view_is) c.self.invariant.due_later

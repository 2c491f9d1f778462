use Rattle.std.proofs.Common.{◌≡◌, ℕ, ◌+◌, ◌<◌, ◌≤◌, pos, List, [], suc, Option, Some, refl, true, false, length}
use Rattle.std.proofs.Common.{vec_len, vec_capacity, ap, ◌∙◌, sym, subst, arith}
use Rattle.fmp_base.specs.declared.calls.Reply.{Reply}
use Rattle.fmp_base.specs.declared.states.TaskBlock.{TaskBlock}
use Rattle.fmp_base.specs.declared.states.WaitQueue.TheVariants.{Flag}
use Rattle.fmp_base.specs.declared.systems.FlagConfig.{FlagConfig}
use Rattle.fmp_base.specs.Changes.{released}
use Rattle.fmp_base.specs.FlagCalls.{is_satisfied, all_cleared, walk}
use Rattle.fmp_base.specs.Outcomes.{given}
use Rattle.fmp_base.specs.Queues.{wait_queue}
use Rattle.fmp_base.specs.States.{Progress, task_at, without}
use Rattle.fmp_base.specs.Systems.{SystemTables}
use Rattle.fmp_ring.specs.OrderLaws.{IsOrder-below}
use Rattle.fmp_ring.specs.RingLists.{behind, from_node}
use Rattle.fmp_ring.specs.WalkLaws.{from_first}
use Rattle.fmp_tasks.specs.Tables.{TablesView, progress}
use Rattle.fmp_objects.proofs.WalkLemmas.{Reached, Reached-first, Reached-in, Reached-behind, Reached-left, rest-behind}
use Rattle.fmp_objects.proofs.WalkLemmas.{rest-left, walk-passed, walk-released, walk-cleared, queue-released, room-at}
use Rattle.fmp_objects.proofs.walking.walk.Goals as goal

pub loop-at-init : goal.loop-at-init
loop-at-init c =
    let waiting = wait_queue c.args.tables.now.system c.args.tables.now.state (Flag c.args.f) in
    let first = c.first_waiting-at.ensures.value in
    let whole : from_node c.first_waiting-at.result waiting ≡ waiting = ap
    (λ (o : Option ℕ). from_node o waiting) first ∙ from_first waiting in
    record {
      progress = rw (whole, c.requires.lines.empty) refl;
      reached = rw first (Reached-first waiting);
      shape = record { system = refl; clock = refl };
      room = λ some. let none : length c.args.lines.now.items
          ≡ 0 = ap length c.requires.lines.empty in absurd (omega arith);
      capacity = refl;
    }

pub waiting_behind-at-requires-clause-waits : goal.waiting_behind-at-requires-clause-waits
waiting_behind-at-requires-clause-waits c =
    let waiting = wait_queue c.loop-at.tables.system c.loop-at.tables.state (Flag c.args.f) in
    let here : Reached (Some c.in-Some.t) waiting = rw c.in-Some.is at c.loop-at.invariant.reached in
    Reached-in c.in-Some.t waiting here

pub task-x-requires : goal.task-x-requires
task-x-requires c =
    let waiting = wait_queue c.loop-at.tables.system c.loop-at.tables.state (Flag c.args.f) in
    let here : Reached (Some c.in-Some.t) waiting = rw c.in-Some.is at c.loop-at.invariant.reached in
    IsOrder-below _ waiting c.waiting_behind-at.ensures.order c.in-Some.t (Reached-in c.in-Some.t waiting here)

pub release-requires-clause-there : goal.release-requires-clause-there
release-requires-clause-there c =
    let waiting = wait_queue c.loop-at.tables.system c.loop-at.tables.state (Flag c.args.f) in
    let here : Reached (Some c.in-Some.t) waiting = rw c.in-Some.is at c.loop-at.invariant.reached in
    IsOrder-below _ waiting c.waiting_behind-at.ensures.order c.in-Some.t (Reached-in c.in-Some.t waiting here)

pub loop-at-preserved-then-not-is_satisfied : goal.loop-at-preserved-then-not-is_satisfied
loop-at-preserved-then-not-is_satisfied c =
    let t = c.in-Some.t in
    let at = c.waiting_behind-at.result in
    let waiting = wait_queue c.loop-at.tables.system c.loop-at.tables.state (Flag c.args.f) in
    let here : Reached (Some t) waiting = rw c.in-Some.is at c.loop-at.invariant.reached in
    let order = c.waiting_behind-at.ensures.order in
    let follows = c.waiting_behind-at.ensures.value in
    let rest : from_node at waiting ≡ behind t waiting = rest-behind _ t waiting at order here follows in
    let stays : is_satisfied (task_at c.loop-at.tables.state.tasks t).phase c.args.bits ≡ false =
    rw c.task-x.ensures.value at (sym c.is_satisfied.ensures ∙ c.if-not-is_satisfied.true) in
    let before = rw c.in-Some.is at c.loop-at.invariant.progress in
    let room = rw c.in-Some.is at c.loop-at.invariant.room in
    record {
      progress =
          ap (λ (l : List ℕ). walk c.flag_config-clears.result.clears c.args.f c.args.bits l
          (progress c.loop-at.tables c.loop-at.lines.items)) rest
          ∙ sym (walk-passed c.flag_config-clears.result.clears c.args.f c.args.bits t (behind t waiting)
          (progress c.loop-at.tables c.loop-at.lines.items) stays)
          ∙ before;
      reached = Reached-behind _ t waiting at order here follows;
      shape = c.loop-at.invariant.shape;
      room = λ some. let now : vec_len c.loop-at.lines + suc (length (behind t waiting)) ≤ vec_capacity
          c.loop-at.lines = room some in omega (arith, ap length rest);
      capacity = c.loop-at.invariant.capacity;
    }

pub loop-at-smaller-then-not-is_satisfied : goal.loop-at-smaller-then-not-is_satisfied
loop-at-smaller-then-not-is_satisfied c =
    let t = c.in-Some.t in
    let at = c.waiting_behind-at.result in
    let waiting = wait_queue c.loop-at.tables.system c.loop-at.tables.state (Flag c.args.f) in
    let here : Reached (Some t) waiting = rw c.in-Some.is at c.loop-at.invariant.reached in
    let rest : from_node at waiting ≡ behind t waiting = rest-behind _ t waiting at c.waiting_behind-at.ensures.order
    here c.waiting_behind-at.ensures.value in
    let fewer : length (from_node at waiting) < length (from_node (Some t) waiting) = omega (arith, ap length rest) in
    subst (λ (o : Option ℕ). length (from_node at waiting) < length (from_node o waiting)) (sym c.in-Some.is) fewer

pub release-requires-clause-room : goal.release-requires-clause-room
release-requires-clause-room c =
    let t = c.in-Some.t in
    let waiting = wait_queue c.loop-at.tables.system c.loop-at.tables.state (Flag c.args.f) in
    let here : Reached (Some t) waiting = rw c.in-Some.is at c.loop-at.invariant.reached in
    let room = rw c.in-Some.is at c.loop-at.invariant.room in
    let same : length c.loop-at.tables.system.tasks ≡ length c.args.tables.now.system.tasks = ap
    (λ (s : SystemTables). length s.tasks) c.loop-at.invariant.shape.system in
    let few : length c.loop-at.tables.system.tasks ≤ vec_capacity c.loop-at.lines = omega arith in
    let all : vec_len c.loop-at.lines + 1 + length (behind t waiting) ≤ vec_capacity c.loop-at.lines =
    room-at _ t waiting (vec_len c.loop-at.lines) (vec_capacity c.loop-at.lines) c.waiting_behind-at.ensures.order few
    here room in
    omega arith

pub returns-then-clears-clause-progress : goal.returns-then-clears-clause-progress
returns-then-clears-clause-progress c =
    let t = c.in-Some.t in
    let waiting = wait_queue c.loop-at.tables.system c.loop-at.tables.state (Flag c.args.f) in
    let now = progress c.loop-at.tables c.loop-at.lines.items in
    let leaves : is_satisfied (task_at c.loop-at.tables.state.tasks t).phase c.args.bits ≡ true =
    rw c.task-x.ensures.value at (sym c.is_satisfied.ensures ∙ c.if-not-is_satisfied.false) in
    let before = rw c.in-Some.is at c.loop-at.invariant.progress in
    let after : progress c.release.new.tables c.release.new.lines.items
    ≡ released now t (task_at c.loop-at.tables.state.tasks t) (given (pos c.args.bits)) =
    c.release.ensures.progress
    ∙ ap (λ (x : TaskBlock). released now t x c.with_bits.result) c.task-x.ensures.value
    ∙ ap (λ (r : Reply). released now t (task_at c.loop-at.tables.state.tasks t) r) c.with_bits.ensures in
    ap (λ (h : TablesView). progress h c.release.new.lines.items) c.set_pattern.ensures
    ∙ ap (λ (p : Progress). all_cleared p c.args.f) after
    ∙ sym (walk-cleared c.flag_config-clears.result.clears c.args.f c.args.bits t
    (behind t waiting) now c.if-clears.true leaves)
    ∙ before
    ∙ ap (λ (x : FlagConfig). walk x.clears c.args.f c.args.bits
    (wait_queue c.args.tables.now.system c.args.tables.now.state (Flag c.args.f)) (progress c.args.tables.now []))
    c.flag_config-clears.ensures

pub loop-at-smaller : goal.loop-at-smaller
loop-at-smaller c =
    let t = c.in-Some.t in
    let at = c.waiting_behind-at.result in
    let waiting = wait_queue c.loop-at.tables.system c.loop-at.tables.state (Flag c.args.f) in
    let waiting_after = wait_queue c.release.new.tables.system c.release.new.tables.state (Flag c.args.f) in
    let now = progress c.loop-at.tables c.loop-at.lines.items in
    let here : Reached (Some t) waiting = rw c.in-Some.is at c.loop-at.invariant.reached in
    let leaves : is_satisfied (task_at c.loop-at.tables.state.tasks t).phase c.args.bits ≡ true =
    rw c.task-x.ensures.value at (sym c.is_satisfied.ensures ∙ c.if-not-is_satisfied.false) in
    let after : progress c.release.new.tables c.release.new.lines.items
    ≡ released now t (task_at c.loop-at.tables.state.tasks t) (given (pos c.args.bits)) =
    c.release.ensures.progress
    ∙ ap (λ (x : TaskBlock). released now t x c.with_bits.result) c.task-x.ensures.value
    ∙ ap (λ (r : Reply). released now t (task_at c.loop-at.tables.state.tasks t) r) c.with_bits.ensures in
    let gone : waiting_after ≡ without waiting t =
    ap (λ (s : SystemTables). wait_queue s c.release.new.tables.state (Flag c.args.f))
    c.release.ensures.kept.shape.system
    ∙ queue-released c.loop-at.tables.system (Flag c.args.f) now (progress c.release.new.tables
    c.release.new.lines.items) t c.args.bits (given (pos c.args.bits)) leaves after in
    let rest : from_node at waiting_after ≡ behind t waiting = rest-left _ t waiting waiting_after at
    c.waiting_behind-at.ensures.order here c.waiting_behind-at.ensures.value gone in
    let fewer : length (from_node at waiting_after) < length (from_node (Some t) waiting) = omega
    (arith, ap length rest) in
    subst (λ (o : Option ℕ). length (from_node at waiting_after) < length (from_node o waiting))
    (sym c.in-Some.is) fewer

pub loop-at-preserved : goal.loop-at-preserved
loop-at-preserved c =
    let t = c.in-Some.t in
    let at = c.waiting_behind-at.result in
    let waiting = wait_queue c.loop-at.tables.system c.loop-at.tables.state (Flag c.args.f) in
    let waiting_after = wait_queue c.release.new.tables.system c.release.new.tables.state (Flag c.args.f) in
    let now = progress c.loop-at.tables c.loop-at.lines.items in
    let here : Reached (Some t) waiting = rw c.in-Some.is at c.loop-at.invariant.reached in
    let order = c.waiting_behind-at.ensures.order in
    let follows = c.waiting_behind-at.ensures.value in
    let before = rw c.in-Some.is at c.loop-at.invariant.progress in
    let room = rw c.in-Some.is at c.loop-at.invariant.room in
    let leaves : is_satisfied (task_at c.loop-at.tables.state.tasks t).phase c.args.bits ≡ true =
    rw c.task-x.ensures.value at (sym c.is_satisfied.ensures ∙ c.if-not-is_satisfied.false) in
    let after : progress c.release.new.tables c.release.new.lines.items
    ≡ released now t (task_at c.loop-at.tables.state.tasks t) (given (pos c.args.bits)) =
    c.release.ensures.progress
    ∙ ap (λ (x : TaskBlock). released now t x c.with_bits.result) c.task-x.ensures.value
    ∙ ap (λ (r : Reply). released now t (task_at c.loop-at.tables.state.tasks t) r) c.with_bits.ensures in
    let gone : waiting_after ≡ without waiting t =
    ap (λ (s : SystemTables). wait_queue s c.release.new.tables.state (Flag c.args.f))
    c.release.ensures.kept.shape.system
    ∙ queue-released c.loop-at.tables.system (Flag c.args.f) now (progress c.release.new.tables
    c.release.new.lines.items) t c.args.bits (given (pos c.args.bits)) leaves after in
    let rest : from_node at waiting_after ≡ behind t waiting = rest-left _ t waiting waiting_after at order here
    follows gone in
    let same : length c.loop-at.tables.system.tasks ≡ length c.args.tables.now.system.tasks = ap
    (λ (s : SystemTables). length s.tasks) c.loop-at.invariant.shape.system in
    let few : length c.loop-at.tables.system.tasks ≤ vec_capacity c.loop-at.lines = omega arith in
    let all : vec_len c.loop-at.lines + 1 + length (behind t waiting) ≤ vec_capacity c.loop-at.lines =
    room-at _ t waiting (vec_len c.loop-at.lines) (vec_capacity c.loop-at.lines) order few here room in
    record {
      progress =
          ap (λ (l : List ℕ). walk c.flag_config-clears.result.clears c.args.f c.args.bits l
          (progress c.release.new.tables c.release.new.lines.items)) rest
          ∙ ap (λ (p : Progress). walk c.flag_config-clears.result.clears c.args.f c.args.bits (behind t waiting) p)
          after
          ∙ sym (walk-released c.flag_config-clears.result.clears c.args.f c.args.bits t
          (behind t waiting) now c.if-clears.false leaves)
          ∙ before;
      reached = Reached-left _ t waiting waiting_after at order here follows gone;
      shape = record {
        system = c.release.ensures.kept.shape.system ∙ c.loop-at.invariant.shape.system;
        clock = c.release.ensures.kept.shape.clock ∙ c.loop-at.invariant.shape.clock;
      };
      room = λ some. omega (arith, ap length rest, c.release.ensures.one_more, c.release.ensures.kept.room);
      capacity = c.release.ensures.kept.room ∙ c.loop-at.invariant.capacity;
    }

pub returns-clause-progress : goal.returns-clause-progress
returns-clause-progress c =
    let over = rw c.in_default.is at c.loop-at.invariant.progress in
    over
    ∙ ap (λ (x : FlagConfig). walk x.clears c.args.f c.args.bits
    (wait_queue c.args.tables.now.system c.args.tables.now.state (Flag c.args.f)) (progress c.args.tables.now []))
    c.flag_config-clears.ensures

-- A world whose clock begins again is alike to what it was, and settled.
use Rattle.std.proofs.Common.{◌≡◌, ℕ, suc, ◌+◌, ◌-◌, ◌≤◌, List, [], ◌∷◌, Option, Some, None, Bool, refl, ap, ◌∙◌, sym}
use Rattle.std.proofs.Common.{arith, get_or, map}
use Rattle.std.specs.Prelude.{IfSome}
use Rattle.std.specs.List.{filter}
use Rattle.std.proofs.Math.Path.{fun_ext}
use Rattle.std.proofs.lemmas.List.{length-map}
use Rattle.fmp_bisimulation.specs.Alike.{Alike, Place, ReadyAt, WaitsAt, SameBlocks, SameTime, SameTimes, standing}
use Rattle.fmp_bisimulation.specs.Alike.{stands_at}
use Rattle.fmp_base.specs.declared.states.TaskBlock.{TaskBlock}
use Rattle.fmp_base.specs.Meanings.{World}
use Rattle.fmp_base.specs.States.{KernelState, task_at}
use Rattle.fmp_base.specs.Systems.{SystemTables}
use Rattle.fmp_kernel.specs.Restarts.{clock_restarted_in}
use Rattle.fmp_tasks.specs.Restarts.{with_time_left, clock_restarted, time_left}
use Rattle.fmp_tasks.proofs.RestartLemmas.{task_from}
use Rattle.fmp_ticks.specs.Times.{NoneBefore}
use Rattle.fmp_worlds.specs.Settled.{IsSettled, IsSettledWorld}

same_time : (now : ℕ) (o : Option ℕ) → IfSome o (λ w. now + 1 ≤ w) → SameTime now 0 o (time_left now o)
same_time now None h = tt
same_time now (Some w) h = omega arith

same_times : (now : ℕ) (times : List (Option ℕ)) → ((t : ℕ) → IfSome (get_or times t None) (λ w. now + 1 ≤ w))
    → SameTimes now 0 times (map (time_left now) times)
same_times now [] h = tt
same_times now (o ∷ times) h = (same_time now o (h 0), same_times now times (λ t. h (suc t)))

same_blocks : (now : ℕ) (tasks : List TaskBlock)
    → ((t : ℕ) → IfSome (get_or (map (λ x. x.deadline) tasks) t None) (λ w. now + 1 ≤ w))
    → SameBlocks now 0 tasks (map (with_time_left now) tasks)
same_blocks now [] h = tt
same_blocks now (x ∷ tasks) h =
    (record { rest = refl; deadline = same_time now x.deadline (h 0) }, same_blocks now tasks (λ t. h (suc t)))

same_place : (sys : SystemTables) (now : ℕ) (c : Place) (x : TaskBlock)
    → stands_at sys c x ≡ stands_at sys c (with_time_left now x)
same_place sys now (ReadyAt p priority) x = refl
same_place sys now (WaitsAt q priority) x = refl

same_standing : (sys : SystemTables) (s : KernelState) (c : Place)
    → standing sys s c ≡ standing sys (clock_restarted s) c
same_standing sys s c =
    let u = clock_restarted s in
    let same : (λ t. stands_at sys c (task_at s.tasks t)) ≡ (λ t. stands_at sys c (task_at u.tasks t)) =
    fun_ext (λ t. same_place sys s.clock c (task_at s.tasks t)
    ∙ ap (stands_at sys c) (sym (task_from s.clock s.tasks t))) in
    ap (λ (f : ℕ → Bool). filter f s.order) same

settled_restarted : (sys : SystemTables) (s : KernelState) → IsSettled sys s → IsSettled sys (clock_restarted s)
settled_restarted sys s k = record {
  assigned = λ p t h. ap (λ (x : TaskBlock). x.processor) (task_from s.clock s.tasks t) ∙ k.assigned p t h;
  ready = λ p t h. ap (λ (x : TaskBlock). x.phase) (task_from s.clock s.tasks t) ∙ k.ready p t h;
  begun = k.begun;
}

pub alike_restarted : {C : Type 0} (sys : SystemTables) (w : World C) → IsSettledWorld sys w
    → NoneBefore (w.state.clock + 1) (map (λ x. x.deadline) w.state.tasks)
    → NoneBefore (w.state.clock + 1) w.state.due_times → Alike sys w (clock_restarted_in w)
alike_restarted sys w k deadlines due_times = record {
  states = record {
    tasks = same_blocks w.state.clock w.state.tasks (λ t. deadlines t);
    order = same_standing sys w.state;
    due_times = same_times w.state.clock w.state.due_times (λ t. due_times t);
    rest = refl;
  };
  contexts = record { tasks = λ t h. refl; handlers = refl; long = refl };
  settled = k.state;
  also_settled = settled_restarted sys w.state k.state;
}

pub settled_world_restarted : {C : Type 0} (sys : SystemTables) (w : World C) → IsSettledWorld sys w
    → IsSettledWorld sys (clock_restarted_in w)
settled_world_restarted sys w k = record {
  whole = record {
    tasks = length-map w.state.tasks (with_time_left w.state.clock) ∙ k.whole.tasks;
    cyclics = k.whole.cyclics;
    handlers = k.whole.handlers;
  };
  state = settled_restarted sys w.state k.state;
  kept = record { tasks = k.kept.tasks; handlers = k.kept.handlers };
  free = record {
    tasks = λ t h. k.free.tasks t (ap (λ (x : TaskBlock). x.phase) (sym (task_from w.state.clock w.state.tasks t)) ∙ h);
    handlers = k.free.handlers;
  };
}

-- Deadlocks: what a task waits for can no longer come.
use Rattle.std.specs.Prelude.{ℕ, ◌≡◌, ◌≢◌, ◌+◌, ◌<◌, ◌≤◌, List, Option, Some, None, Bool, true, false, count_by, length}
use Rattle.std.specs.Prelude.{nat_lt, slice_get, slice_index_or}
use Rattle.fmp_base.specs.declared.events.Event.{Event}
use Rattle.fmp_base.specs.declared.events.Event.TheVariants as event
use Rattle.fmp_base.specs.declared.states.Phase.TheVariants.{Dormant}
use Rattle.fmp_base.specs.Meanings.{Meaning, World}
use Rattle.fmp_base.specs.States.{KernelState, task_at}
use Rattle.fmp_base.specs.Steps.{Nothing, step}
use Rattle.fmp_base.specs.Systems.{SystemTables, found}

abbrev pub is_interrupt : Event → Bool
is_interrupt (event.Int number) = true
is_interrupt _ = false

-- one more interrupt may come after these events
abbrev pub may_interrupt : Option ℕ → List Event → Bool
may_interrupt None es = true
may_interrupt (Some most) es = nat_lt (count_by is_interrupt es) most

-- a task that may not wait forever is started
pub record IsStuck (rest : List Bool) (s : KernelState) (tasks : ℕ) : Type 0 where
  pub task : ℕ
  pub there : task < tasks
  pub may_not_rest : slice_index_or rest task false ≡ false
  pub started : (task_at s.tasks task).phase ≢ Dormant

-- No processor can do anything; no interrupt does anything, where one more may still come; no wait ends by the clock;
-- no cyclic handler is started; and a task that may not wait forever is started. What limits of single interrupts hold
-- back counts as if it could come.
pub record IsDeadlock {C : Type 0} (sys : SystemTables) (M : Meaning C) (n : ℕ) (w : World C) (rest : List Bool)
    (interrupts : Bool) : Type 0 where
  pub runs : (p : ℕ) → 1 ≤ p → p < sys.processors + 1 → step sys M n w (event.Run p) ≡ Nothing
  pub requests : interrupts ≡ true → (i : ℕ) → 1 ≤ i → i < 33 → step sys M n w (event.Int i) ≡ Nothing
  pub waits : (t : ℕ) → t < length sys.tasks → (task_at w.state.tasks t).deadline ≡ None
  pub handlers : (c : ℕ) → c < length sys.cyclics → found None (slice_get w.state.due_times c) ≡ None
  pub stuck : IsStuck rest w.state (length sys.tasks)

-- The parts of a deadlock, as the code looks for them.
use Rattle.std.specs.Prelude.{ℕ, ◌≡◌, ◌≢◌, ◌+◌, ◌<◌, List, None, Bool, true, false, length, slice_get, slice_index_or}
use Rattle.fmp_base.specs.Meanings.{Meaning}
use Rattle.fmp_base.specs.declared.states.Phase.TheVariants.{Dormant}
use Rattle.fmp_base.specs.States.{KernelState, task_at}
use Rattle.fmp_base.specs.Systems.{SystemTables, found}
use Rattle.fmp_drive.specs.Driving.{AllStand}
use Rattle.fmp_drive.specs.declared.trying.EventSource.TheVariants.{Processor, Interrupt}
use Rattle.fmp_kernel.specs.KernelViews.{KernelView}
use Rattle.fmp_schedules.specs.Deadlocks.{IsStuck}

-- no wait of these tasks ends by the clock
abbrev pub NoWaitEnds : KernelState → (tasks : ℕ) → Type 0
NoWaitEnds s tasks = (t : ℕ) → t < tasks → (task_at s.tasks t).deadline ≡ None

-- none of these cyclic handlers is started
abbrev pub NoHandlerComes : KernelState → (cyclics : ℕ) → Type 0
NoHandlerComes s cyclics = (c : ℕ) → c < cyclics → found None (slice_get s.due_times c) ≡ None

-- the task at a place may not wait forever, and is started
pub record IsStuckAt (rest : List Bool) (s : KernelState) (t : ℕ) : Type 0 where
  pub may_not_rest : slice_index_or rest t false ≡ false
  pub started : (task_at s.tasks t).phase ≢ Dormant

-- no time runs, and a task that may not wait forever is started
pub record StandsStill (rest : List Bool) (sys : SystemTables) (s : KernelState) : Type 0 where
  pub waits : NoWaitEnds s (length sys.tasks)
  pub handlers : NoHandlerComes s (length sys.cyclics)
  pub stuck : IsStuck rest s (length sys.tasks)

-- no event of these processors does anything, and no interrupt where one may still come
pub record NoneDoes {B C : Type 0} (meaning : B → Meaning C) (k : KernelView B C) (processors : ℕ) (interrupts : Bool) :
    Type 0 where
  pub runs : AllStand meaning k Processor 1 (processors + 1)
  pub requests : interrupts ≡ true → AllStand meaning k Interrupt 1 33

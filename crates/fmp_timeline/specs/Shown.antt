-- What the lanes show after an event.
use Rattle.std.specs.Prelude.{ℕ, ◌≡◌, List, Option, None, Some, Bool, false, ◌&&◌, if◌then◌else◌, nat_eq, get_or}
use Rattle.std.specs.Prelude.{slice_get, length, map}
use Rattle.std.specs.List.{range_with_len}
use Rattle.fmp_base.specs.declared.events.StateWord.TheVariants as word
use Rattle.fmp_base.specs.declared.events.TaskState.{TaskState}
use Rattle.fmp_base.specs.declared.states.Caller.{Caller}
use Rattle.fmp_base.specs.declared.states.Caller.TheVariants as caller
use Rattle.fmp_base.specs.declared.states.Handler.{Handler}
use Rattle.fmp_base.specs.declared.states.Phase.{Phase}
use Rattle.fmp_base.specs.declared.states.Phase.TheVariants as phase
use Rattle.fmp_base.specs.declared.states.Processor.{Processor}
use Rattle.fmp_base.specs.declared.states.TaskBlock.{TaskBlock}
use Rattle.fmp_base.specs.declared.states.WaitCause.{WaitCause}
use Rattle.fmp_timeline.specs.declared.states.Occupant.{Occupant}
use Rattle.fmp_timeline.specs.declared.states.TaskShown.{TaskShown}

-- what a task waits for
abbrev pub wait_of : Phase → Option WaitCause
wait_of phase.Dormant = None
wait_of phase.Ready = None
wait_of (phase.Waiting c) = Some c

abbrev pub is_task : ℕ → Option ℕ → Bool
is_task t None = false
is_task t (Some u) = nat_eq u t

-- the handler that has interrupted task t on its processor
abbrev pub handler_over : ℕ → Option Processor → Option Handler
handler_over t None = None
handler_over t (Some x) = if is_task t x.run then x.handler else None

-- its processor runs task t
abbrev pub is_run : ℕ → Option Processor → Bool
is_run t None = false
is_run t (Some x) = is_task t x.run

-- what is shown of task t
abbrev pub task_shown : ℕ → TaskState → TaskBlock → List Processor → TaskShown
task_shown t state block xs =
    record {
      processor = state.processor;
      word = state.word;
      wait = wait_of block.phase;
      deadline = block.deadline;
      under = handler_over t (slice_get xs state.processor);
      held = is_run t (slice_get xs state.processor) && block.suspended;
    }

-- of a missing task
abbrev pub no_state : TaskState
no_state = record { word = word.Dormant; processor = 0; priority = 0 }

abbrev pub no_block : TaskBlock
no_block =
    record {
      phase = phase.Dormant;
      suspended = false;
      priority = 0;
      processor = 0;
      activations = 0;
      next_processor = None;
      wakeups = 0;
      deadline = None;
    }

-- what is shown of all tasks, in order of number
abbrev pub tasks_shown : List TaskState → List TaskBlock → List Processor → List TaskShown
tasks_shown states blocks xs =
    map (λ t. task_shown t (get_or states t no_state) (get_or blocks t no_block) xs) (range_with_len 0 (length states))

-- a processor runs this handler
abbrev pub IsRunning : Handler → Processor → Type 0
IsRunning handler x = x.handler ≡ Some handler

-- a handler goes on before the task that it has interrupted
abbrev pub actor_by : Option Handler → Option ℕ → Option Caller
actor_by (Some h) task = Some (caller.Handler h)
actor_by None (Some t) = Some (caller.Task t)
actor_by None None = None

-- which actor goes on when its processor does
abbrev pub actor_of : Occupant → Option Caller
actor_of o = actor_by o.handler o.task

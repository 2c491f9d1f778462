-- Start, release, end and suspension of a task (uITRON 4.0, section 3.2). A task is given by its place t and
-- its block x, as it is before the change.
use Rattle.std.specs.Prelude.{ℕ, zero, suc, [], ◌∷◌, ◌++◌, None, Bool, true, false}
use Rattle.fmp_base.specs.declared.calls.Reply.{Reply}
use Rattle.fmp_base.specs.declared.events.Line.TheVariants as line
use Rattle.fmp_base.specs.declared.states.Lock.TheVariants.{Free}
use Rattle.fmp_base.specs.declared.states.Phase.{Phase}
use Rattle.fmp_base.specs.declared.states.Phase.TheVariants.{Dormant, Ready, Waiting}
use Rattle.fmp_base.specs.declared.states.TaskBlock.{TaskBlock}
use Rattle.fmp_base.specs.States.{KernelState, Progress, unchanged, processor_at, with_processor, with_task, with_last}
use Rattle.fmp_base.specs.States.{with_removed}
use Rattle.fmp_base.specs.Systems.{SystemTables, task_config, found}

-- the block of a task that starts: a stored processor becomes the assigned one
abbrev pub started_block : SystemTables → ℕ → TaskBlock → TaskBlock
started_block sys t x =
    record x {
      phase = Ready;
      suspended = false;
      priority = (task_config sys t).priority;
      processor = found x.processor x.next_processor;
      next_processor = None;
      wakeups = 0;
      deadline = None;
    }

-- task t becomes y, which has just started
abbrev pub started_as : Progress → ℕ → TaskBlock → Progress
started_as g t y = record { state = with_last g.state t y; lines = g.lines ++ line.Starts y.processor t ∷ [] }

-- the task starts, at the end of the order
abbrev pub started : SystemTables → Progress → ℕ → TaskBlock → Progress
started sys g t x = started_as g t (started_block sys t x)

-- a suspended task leaves the order, another goes to its end
abbrev pub released_state : Bool → KernelState → ℕ → TaskBlock → KernelState
released_state true s t y = with_removed s t y
released_state false s t y = with_last s t y

-- the waiting task is released with a reply
abbrev pub released : Progress → ℕ → TaskBlock → Reply → Progress
released g t x reply =
    record {
      state = released_state x.suspended g.state t (record x { phase = Ready; deadline = None });
      lines = g.lines ++ line.Gets x.processor t reply ∷ [];
    }

-- the block of a task that has ended; queued activations and a stored processor stay
abbrev pub ended_block : SystemTables → ℕ → TaskBlock → TaskBlock
ended_block sys t x =
    record x
    { phase = Dormant; suspended = false; priority = (task_config sys t).priority; wakeups = 0; deadline = None }

-- with no activation queued the task, now y, is dormant; else one is taken and it starts
abbrev pub ended_by : ℕ → SystemTables → Progress → ℕ → TaskBlock → Progress
ended_by zero sys g t y = record g { state = with_removed g.state t y }
ended_by (suc n) sys g t y = started sys g t (record y { activations = n })

-- the task ends, and starts again if an activation is queued
abbrev pub ended : SystemTables → Progress → ℕ → TaskBlock → Progress
ended sys g t x = ended_by x.activations sys g t (ended_block sys t x)

-- p runs no task, unlocked and with dispatching enabled
abbrev pub with_nothing_run : KernelState → ℕ → KernelState
with_nothing_run s p =
    with_processor s p (record (processor_at s p) { run = None; lock = Free; dispatch_disabled = false })

-- the task, which p runs, ends itself
abbrev pub ended_itself : SystemTables → KernelState → ℕ → ℕ → TaskBlock → Progress
ended_itself sys s p t x = ended sys (unchanged (with_nothing_run s p)) t x

-- a waiting task goes on waiting in its place, another leaves the order
abbrev pub suspended_by : Phase → KernelState → ℕ → TaskBlock → KernelState
suspended_by Dormant s t y = with_removed s t y
suspended_by Ready s t y = with_removed s t y
suspended_by (Waiting c) s t y = with_task s t y

-- the task is suspended
abbrev pub suspended : KernelState → ℕ → TaskBlock → KernelState
suspended s t x = suspended_by x.phase s t (record x { suspended = true })

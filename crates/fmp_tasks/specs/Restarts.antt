-- The state of a kernel whose clock begins again at 0.
use Rattle.std.specs.Prelude.{ℕ, ◌-◌, Option, Some, None, map}
use Rattle.fmp_base.specs.declared.states.TaskBlock.{TaskBlock}
use Rattle.fmp_base.specs.States.{KernelState}

-- the time that is left from now until another one, if there is one
abbrev pub time_left : ℕ → Option ℕ → Option ℕ
time_left now None = None
time_left now (Some time) = Some (time - now)

-- a task whose deadline becomes the time that is left until it
abbrev pub with_time_left : ℕ → TaskBlock → TaskBlock
with_time_left now x = record x { deadline = time_left now x.deadline }

-- the clock is 0, and each deadline and each due time becomes the time that is left until it
abbrev pub clock_restarted : KernelState → KernelState
clock_restarted s =
    record s {
      tasks = map (with_time_left s.clock) s.tasks;
      due_times = map (time_left s.clock) s.due_times;
      clock = 0;
    }

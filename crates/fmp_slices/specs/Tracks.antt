-- The tracks of a trace.
use Rattle.std.specs.Prelude.{ℕ, ◌+◌, Option, None, Some, option_map, slice_get}
use Rattle.fmp_base.specs.declared.states.Caller.{Caller}
use Rattle.fmp_base.specs.declared.states.Caller.TheVariants as caller
use Rattle.fmp_base.specs.declared.states.Handler.{Handler}
use Rattle.fmp_base.specs.declared.states.Handler.TheVariants as handler
use Rattle.fmp_base.specs.Systems.{SystemTables, interrupt_config}
use Rattle.fmp_slices.specs.declared.lanes.Lane.{Lane}

-- a track of this number in its group: the processors, the tasks, and the clock with the interrupts
abbrev pub lane : (group number : ℕ) → Lane
lane group number = record { group = group; number = number }

abbrev pub processor_lane : ℕ → Lane
processor_lane p = lane 1 (p + 1)

abbrev pub task_lane : ℕ → Lane
task_lane t = lane 2 (t + 1)

abbrev pub tick_lane : Lane
tick_lane = lane 3 1

abbrev pub interrupt_lane : Lane
interrupt_lane = lane 3 2

-- the place of the processor of a handler
abbrev pub handler_processor : SystemTables → Handler → Option ℕ
handler_processor sys (handler.Cyclic c) = option_map (λ config. config.processor) (slice_get sys.cyclics c)
handler_processor sys (handler.Interrupt i) = option_map (λ config. config.processor) (interrupt_config sys i)

-- the track on which an actor acts: a handler on that of its processor
abbrev pub lane_of : SystemTables → Caller → Option Lane
lane_of sys (caller.Task t) = Some (task_lane t)
lane_of sys (caller.Handler h) = option_map processor_lane (handler_processor sys h)

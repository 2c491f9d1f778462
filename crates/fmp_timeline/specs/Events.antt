-- A run by its events, of which setup has the number 0, and by the places of its tasks and handlers.
use Rattle.std.specs.Prelude.{ℕ, ◌+◌, ◌-◌, ◌^◌, Option, None, Some, length, min, option_map, slice_get}
use Rattle.fmp_base.specs.declared.states.Caller.{Caller}
use Rattle.fmp_base.specs.declared.states.Caller.TheVariants as caller
use Rattle.fmp_base.specs.declared.states.Handler.{Handler}
use Rattle.fmp_base.specs.declared.states.Handler.TheVariants as handler
use Rattle.fmp_timeline.specs.declared.run.Run.{Run}
use Rattle.fmp_timeline.specs.declared.states.Handling.{Handling}
use Rattle.fmp_timeline.specs.declared.states.TaskShown.{TaskShown}
use Rattle.fmp_timeline.specs.declared.tracks.Track.{Track}
use Rattle.fmp_timeline.specs.Tracks.{last_state}

-- the number of the next event; the numbers end with the greatest of 32 bits
abbrev pub next_event : Run → ℕ
next_event run = min (length run.notes.items) (2 ^ 32 - 1)

abbrev pub last_event : Run → ℕ
last_event run = next_event run - 1

-- tasks come first, then cyclic handlers, then interrupts: 256 places each
abbrev pub place_of : Caller → ℕ
place_of (caller.Task t) = t
place_of (caller.Handler (handler.Cyclic c)) = 256 + c
place_of (caller.Handler (handler.Interrupt i)) = 512 + i

-- the states of a handler
abbrev pub handling : Run → Handler → Option (Track Handling)
handling run (handler.Cyclic c) = slice_get run.cyclics.items c
handling run (handler.Interrupt i) = slice_get run.interrupts.items i

-- the place of the processor to which the task of a track was assigned last
abbrev pub processor_of : Option (Track TaskShown) → Option ℕ
processor_of None = None
processor_of (Some track) = option_map (λ s. s.processor) (last_state track.changes.items)

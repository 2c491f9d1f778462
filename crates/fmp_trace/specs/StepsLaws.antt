-- Laws of steps texts.
use Rattle.std.specs.Prelude.{ℕ, ◌≡◌, ◌≤◌, ◌<◌, List, Ok, length}
use Rattle.std.specs.List.{AllByRecursion}
use Rattle.fmp_base.specs.declared.events.Event.{Event}
use Rattle.fmp_base.specs.declared.events.Event.TheVariants as event
use Rattle.fmp_trace.specs.Steps.{steps_of, steps_text}

-- an event that a steps text can hold
abbrev pub IsStep : (processors : ℕ) → Event → Type 0
IsStep processors (event.Run p) = (1 ≤ p) × (p ≤ processors)
IsStep processors event.Tick = Unit {0}
IsStep processors (event.Int i) = (1 ≤ i) × (i ≤ 32)

-- what is written of events, at most 2^20, is read as these events
abbrev pub PrintedStepsReadBack : Type 0
PrintedStepsReadBack =
    (processors : ℕ) (events : List Event) → processors < 256 → AllByRecursion (IsStep processors) events
    → length events ≤ 1048576 → steps_of processors (steps_text events) ≡ Ok events

-- The events that the threads of a board make.
use Rattle.std.specs.Prelude.{◌≡◌, ℕ, ◌≤◌, ◌==◌, Bool, true, false, List, length}
use Rattle.std.specs.List.{All, filter}
use Rattle.fmp_base.specs.declared.events.Event.{Event}
use Rattle.fmp_base.specs.declared.events.Event.TheVariants.{Run, Tick, Int}
use Rattle.fmp_hostrun.specs.declared.turns.Load.{Load}

-- a run of one of its processors, a tick, or its interrupt
abbrev pub IsEventOf : Load → Event → Type 0
IsEventOf load (Run p) = (1 ≤ p) × (p ≤ load.processors)
IsEventOf load Tick = Unit {0}
IsEventOf load (Int i) = i ≡ load.interrupt

-- whether an event is a run of processor p
abbrev pub is_run : (p : ℕ) → Event → Bool
is_run p (Run q) = q == p
is_run p Tick = false
is_run p (Int i) = false

-- whether an event is a tick
abbrev pub is_tick : Event → Bool
is_tick (Run p) = false
is_tick Tick = true
is_tick (Int i) = false

-- whether an event is an interrupt
abbrev pub is_interrupt : Event → Bool
is_interrupt (Run p) = false
is_interrupt Tick = false
is_interrupt (Int i) = true

-- Each event is one of a load, and there are at most as many as it says: runs of each processor, ticks, and interrupts.
pub record AreCounted (load : Load) (events : List Event) : Type 0 where
  pub each : All (IsEventOf load) events
  pub few_runs : (p : ℕ) → length (filter (is_run p) events) ≤ load.turns
  pub few_ticks : length (filter is_tick events) ≤ load.ticks
  pub few_interrupts : length (filter is_interrupt events) ≤ load.interrupts

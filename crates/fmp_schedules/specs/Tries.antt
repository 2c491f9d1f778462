-- The events that are tried in each state.
use Rattle.std.specs.Prelude.{ℕ, List, ◌∷◌, ◌++◌, filter, map}
use Rattle.std.specs.List.{range_with_len}
use Rattle.fmp_base.specs.declared.events.Event.{Event}
use Rattle.fmp_base.specs.declared.events.Event.TheVariants as event
use Rattle.fmp_base.specs.Systems.{SystemTables}
use Rattle.fmp_schedules.specs.Tried.{is_event_of}

-- the runs of this many processors, by their numbers
abbrev pub runs : (processors : ℕ) → List Event
runs processors = map (λ p. event.Run p) (range_with_len 1 processors)

-- the requests of this many interrupts, by their numbers, without those that have no handler
unfoldable pub requests : SystemTables → (interrupts : ℕ) → List Event
requests sys interrupts = filter (λ e. is_event_of sys e) (map (λ i. event.Int i) (range_with_len 1 interrupts))

-- all events of a system in the order in which they are tried
abbrev pub all_tries : SystemTables → List Event
all_tries sys = runs sys.processors ++ event.Tick ∷ requests sys 32

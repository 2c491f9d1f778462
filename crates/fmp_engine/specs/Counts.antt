-- How many events of each kind a list has.
use Rattle.std.specs.Prelude.{◌≡◌, ℕ, Bool, true, false, List, count_by}
use Rattle.fmp_base.specs.declared.events.Event.{Event}
use Rattle.fmp_base.specs.declared.events.Event.TheVariants.{Run, Tick, Int}
use Rattle.fmp_hostrun.specs.Counts.{is_interrupt, is_tick}
use Rattle.fmp_trace.specs.Steps.{steps_text}
use Rattle.fmp_engine.specs.declared.counts.EventCounts.{EventCounts}

-- whether an event is a run of some processor
abbrev pub is_any_run : Event → Bool
is_any_run (Run p) = true
is_any_run Tick = false
is_any_run (Int i) = false

-- how many events of each kind a list has
abbrev pub counts_of : List Event → EventCounts
counts_of es = record {
  runs = count_by is_any_run es;
  ticks = count_by is_tick es;
  interrupts = count_by is_interrupt es;
}

-- the steps text of a journal, and how many events of each kind the journal has
pub record CountsSteps (steps : List ℕ) (counts : EventCounts) : Type 0 where
  pub journal : List Event
  pub steps_are : steps ≡ steps_text journal
  pub counted : counts ≡ counts_of journal

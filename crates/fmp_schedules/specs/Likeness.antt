-- Relations between worlds that show the same to a search.
use Rattle.std.specs.Prelude.{ℕ, ◌≡◌, Bool, true}
use Rattle.fmp_base.specs.declared.events.Event.{Event}
use Rattle.fmp_base.specs.Meanings.{Meaning, World}
use Rattle.fmp_base.specs.Steps.{Reaction, step}
use Rattle.fmp_base.specs.Systems.{SystemTables}
use Rattle.fmp_bisimulation.specs.Alike.{AlikeStates}
use Rattle.fmp_bisimulation.specs.Closed.{BothAlike, IsChained, LeadsIn, Watch}

-- the states of two worlds are alike
abbrev pub StatesAlike : {C : Type 0} → SystemTables → World C → World C → Type 0
StatesAlike sys v w = AlikeStates sys v.state w.state

-- The relations F below say which events fit a world.

-- each event fits
abbrev pub AnyFits : {C : Type 0} → World C → Event → Type 0
AnyFits w e = Unit {0}

-- Each event that fits the second of two worlds of which R holds does the same in both. One that does not still does
-- the same to the state, by the same lines. R is chained, and the states of such worlds are alike.
pub record IsLikeness {C : Type 0} (sys : SystemTables) (M : Meaning C) (n : ℕ) (R : World C → World C → Type 0)
    (F : World C → Event → Type 0) : Type 0 where
  pub keeps : (v w : World C) (e : Event) → R v w → F w e → BothAlike R (step sys M n v e) (step sys M n w e)
  pub always :
      (v w : World C) (e : Event) → R v w → BothAlike (StatesAlike sys) (step sys M n v e) (step sys M n w e)
  pub chained : IsChained R
  pub states : (v w : World C) → R v w → AlikeStates sys v.state w.state

-- no event that may come leads out of a set from a world that is like one of it
abbrev pub IsClosedUnder : {C S : Type 0} → (World C → World C → Type 0) → Watch S → (World C → S → Event → Bool)
    → (World C → Event → Reaction C) → (World C → S → Type 0) → Type 0
IsClosedUnder {C} {S} R W may go K =
    (v w : World C) (a : S) (e : Event) → R v w → K w a → may w a e ≡ true → LeadsIn R W K a (go v e)

-- What a search has to show of the worlds that it has seen.
use Rattle.std.specs.Prelude.{ℕ, zero, suc, ◌≡◌, List, Bool, true, false, is_some, length, nat_lt}
use Rattle.fmp_base.specs.declared.events.Event.{Event}
use Rattle.fmp_base.specs.declared.events.Event.TheVariants as event
use Rattle.fmp_base.specs.declared.events.Line.{Line}
use Rattle.fmp_base.specs.declared.events.Line.TheVariants as line
use Rattle.fmp_base.specs.Meanings.{Meaning, World}
use Rattle.fmp_base.specs.Setups.{setup}
use Rattle.fmp_base.specs.Steps.{Reaction, step}
use Rattle.fmp_base.specs.Systems.{SystemTables, interrupt_config}
use Rattle.fmp_bisimulation.specs.Closed.{IsCovered, LeadsIn, NoneIsBad, Watch, timeless}
use Rattle.fmp_schedules.specs.Deadlocks.{IsDeadlock}
use Rattle.fmp_schedules.specs.Likeness.{IsLikeness}
use Rattle.fmp_schedules.specs.Monitors.{is_any_broken_in}
use Rattle.fmp_schedules.specs.Schedules.{IsSilent, Rules, Watched, watched_at_setup, may_come, may_still, watch}

-- all lines of the clock are forbidden, or none is
abbrev pub IsTimeless : (Line → Bool) → Type 0
IsTimeless forbidden = (a b : ℕ) → forbidden (line.Tick a) ≡ forbidden (line.Tick b)

-- an event of a system: of one of its processors, of the clock, or of an interrupt that has a handler
abbrev pub is_event_of : SystemTables → Event → Bool
is_event_of sys (event.Run zero) = false
is_event_of sys (event.Run (suc p)) = nat_lt p sys.processors
is_event_of sys event.Tick = true
is_event_of sys (event.Int zero) = false
is_event_of sys (event.Int (suc i)) = is_some (interrupt_config sys i)

-- an event was tried on some world that is like w and that it fits, with what is watched at w, and led to what K has,
-- if to anything
pub record IsTried {C S : Type 0} (R : World C → World C → Type 0) (F : World C → Event → Type 0) (W : Watch S)
    (go : World C → Event → Reaction C) (K : World C → S → Type 0) (w : World C) (a : S) (e : Event) : Type 0 where
  pub world : World C
  pub alike : R w world
  pub fit : F world e
  pub leads : LeadsIn R W K a (go world e)

-- no state of a set breaks a sentence
abbrev pub NoneBreaks : {C : Type 0} → Rules → (World C → Watched → Type 0) → Type 0
NoneBreaks {C} rules K = (w : World C) (a : Watched) → K w a → is_any_broken_in rules.monitors w.state ≡ false

-- none of a set is a deadlock
abbrev pub NoneIsDeadlock : {C : Type 0} → Rules → SystemTables → Meaning C → (n : ℕ) → (rest : List Bool)
    → (World C → Watched → Type 0) → Type 0
NoneIsDeadlock {C} rules sys M n rest K =
    (w : World C) (a : Watched) → K w a → IsDeadlock sys M n w rest (may_still rules.most a.came) → ⊥

-- What a search has to show of the set of worlds that it has seen, each with what is watched there. Each has the
-- processors of the system. The world after setup is like one of them. Each of the system's events that may come to one
-- of them was tried, and led to nothing new. In none was a forbidden line told, or a sentence broken by a line or by
-- the state, and none is a deadlock. R says which worlds are like one another, F which events fit a world.
pub record IsSearched {C : Type 0} (R : World C → World C → Type 0) (F : World C → Event → Type 0) (rules : Rules)
    (sys : SystemTables) (M : Meaning C) (n : ℕ) (forbidden : Line → Bool) (rest : List Bool)
    (K : World C → Watched → Type 0) : Type 0 where
  pub like : IsLikeness sys M n R F
  pub whole : (w : World C) (a : Watched) → K w a → length w.state.processors ≡ sys.processors
  pub first : IsCovered R K (setup sys M).world (watched_at_setup rules sys M forbidden)
  pub tried :
      (w : World C) (a : Watched) (e : Event) → K w a → is_event_of sys e ≡ true →
      may_come rules sys M n w a e ≡ true →
      IsTried R F (watch rules forbidden) (step sys M n) K w a e
  pub clean : NoneIsBad (watch rules forbidden) K
  pub upheld : NoneBreaks rules K
  pub free : NoneIsDeadlock rules sys M n rest K

-- the same is forbidden in alike worlds, whatever the number of the clock
abbrev pub IsEven : {C : Type 0} → (World C → World C → Type 0) → (World C → Line → Bool) → Type 0
IsEven {C} R forbidden =
    (v w : World C) (l m : Line) → R v w → timeless l ≡ timeless m → forbidden v l ≡ forbidden w m

-- an event was tried on some world that is like w and that it fits, and told no line that is forbidden in the world
-- that it left
pub record IsTriedSilent {C : Type 0} (R : World C → World C → Type 0) (F : World C → Event → Type 0)
    (sys : SystemTables) (M : Meaning C) (n : ℕ) (forbidden : World C → Line → Bool) (w : World C) (e : Event)
    : Type 0 where
  pub world : World C
  pub alike : R w world
  pub fit : F world e
  pub silent : IsSilent forbidden (step sys M n world e)

-- each of the system's events that may come to one of a set of worlds was tried so
abbrev pub AreSilent : {C : Type 0} → (World C → World C → Type 0) → (World C → Event → Type 0) → Rules → SystemTables
    → Meaning C → (n : ℕ) → (forbidden : World C → Line → Bool) → (World C → Watched → Type 0) → Type 0
AreSilent {C} R F rules sys M n forbidden K =
    (w : World C) (a : Watched) (e : Event) → K w a → is_event_of sys e ≡ true →
    may_come rules sys M n w a e ≡ true → IsTriedSilent R F sys M n forbidden w e

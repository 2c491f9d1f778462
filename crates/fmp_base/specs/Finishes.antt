-- Which events of a list a bounded run finishes, in the words of the meaning alone.
use Rattle.std.specs.Prelude.{ℕ, suc, ◌≡◌, List, [], ◌∷◌, Option, Some, None}
use Rattle.fmp_base.specs.declared.events.Effect.{Effect}
use Rattle.fmp_base.specs.declared.events.Effect.TheVariants as effect
use Rattle.fmp_base.specs.declared.events.Event.{Event}
use Rattle.fmp_base.specs.declared.events.Event.TheVariants.{Run}
use Rattle.fmp_base.specs.declared.states.Caller.{Caller}
use Rattle.fmp_base.specs.declared.bodies.Held.TheVariants.{Goes}
use Rattle.fmp_base.specs.Meanings.{Meaning, World, context_of, caller_body}
use Rattle.fmp_base.specs.Runs.{Trace, after_first}
use Rattle.fmp_base.specs.States.{processor_at}
use Rattle.fmp_base.specs.Steps.{Done, Nothing, Did, actor_of, with_place, step}
use Rattle.fmp_base.specs.Systems.{SystemTables}

-- the trace of a run that is over
abbrev pub ended_in : {C : Type 0} → World C → Trace C
ended_in w = record { world = w; events = [] }

-- From world w on, where a machine answers this to each of the events in the first list, just those in the second are
-- finished within n units, and they leave this trace: the ones that are answered Done. One that is answered Nothing
-- does nothing at its place within any number of units; and where one is answered Kept, its actor keeps a place: its
-- context becomes one to which `again` leads.
pub data Finishes {C : Type 0} (sys : SystemTables) (M : Meaning C) (again : ℕ → C → C → Type 0) (n : ℕ) : World C
    → List Event → List Effect → List Event → Trace C → Type 0 where
  over : (w : World C) → Finishes sys M again n w [] [] [] (ended_in w)
  did : (w : World C) (e : Event) (es : List Event) (xs : List Effect) (ds : List Event) (d : Done C) (r : Trace C) →
      step sys M n w e ≡ Did d → Finishes sys M again n d.world es xs ds r →
      Finishes sys M again n w (e ∷ es) (effect.Done ∷ xs) (e ∷ ds) (after_first d.lines r)
  did_nothing : (w : World C) (e : Event) (es : List Event) (xs : List Effect) (ds : List Event) (r : Trace C) →
      ((t : ℕ) → step sys M t w e ≡ Nothing) → Finishes sys M again n w es xs ds r →
      Finishes sys M again n w (e ∷ es) (effect.Nothing ∷ xs) ds r
  kept : (w : World C) (p : ℕ) (who : Caller) (c next : C) (es : List Event) (xs : List Effect) (ds : List Event)
      (r : Trace C) →
      actor_of (processor_at w.state p) ≡ Some who → context_of w.contexts p who ≡ Some (Goes c) →
      again (caller_body sys w.contexts p who) c next → Finishes sys M again n (with_place w p who next) es xs ds r →
      Finishes sys M again n w (Run (suc p) ∷ es) (effect.Kept ∷ xs) ds r

-- a run of which each event is done
abbrev pub IsComplete : {C : Type 0} → Option (Trace C) → Type 0
IsComplete None = ⊥
IsComplete (Some r) = Unit {0}

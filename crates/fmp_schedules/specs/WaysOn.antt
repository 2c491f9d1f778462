-- What a search has to show of the worlds that it has seen, so that no task is ever stuck: of each such task and world,
-- how many events away an act of the task is, and by which event that distance falls.
use Rattle.std.specs.Prelude.{ℕ, ◌≡◌, ◌≢◌, ◌<◌, ◌⊎◌, List, Option, Some, Bool, true, false, length, slice_get}
use Rattle.std.specs.Prelude.{slice_index_or}
use Rattle.std.specs.List.{list_any}
use Rattle.fmp_base.specs.declared.events.Event.{Event}
use Rattle.fmp_base.specs.declared.events.Line.{Line}
use Rattle.fmp_base.specs.declared.states.Phase.TheVariants.{Dormant}
use Rattle.fmp_base.specs.Meanings.{Meaning, World}
use Rattle.fmp_base.specs.States.{task_at}
use Rattle.fmp_base.specs.Steps.{Reaction, Nothing, Did, Kept, step}
use Rattle.fmp_base.specs.Systems.{SystemTables}
use Rattle.fmp_bisimulation.specs.Closed.{IsCovered, Seen}
use Rattle.fmp_schedules.specs.Schedules.{Rules, Watched, may_come, watch, watched_on}
use Rattle.fmp_schedules.specs.Stuck.{acts}

-- it is like a world that is nearer than k to an act
pub record IsNearer {C : Type 0} (R : World C → World C → Type 0) (Far : ℕ → World C → Watched → Type 0) (k : ℕ)
    (w : World C) (a : Watched) : Type 0 where
  pub distance : ℕ
  pub less : distance < k
  pub covered : IsCovered R (Far distance) w a

-- this tells an act of task t, or leads nearer to one
abbrev pub LeadsNearer : {C : Type 0} → (World C → World C → Type 0) → Rules → (Line → Bool) → (t : ℕ)
    → (ℕ → World C → Watched → Type 0) → (k : ℕ) → Watched → Reaction C → Type 0
LeadsNearer R rules forbidden t Far k a Nothing = ⊥
LeadsNearer R rules forbidden t Far k a (Did d) =
    (list_any (acts t) d.lines ≡ true) ⊎ IsNearer R Far k d.world (watched_on rules forbidden a d.lines)
LeadsNearer R rules forbidden t Far k a (Kept p w) = IsNearer R Far k w a

-- an event that may come to w was tried on some world that is like w and that it fits: it told an act of task t, or led
-- nearer to one
pub record HasWay {C : Type 0} (R : World C → World C → Type 0) (F : World C → Event → Type 0) (rules : Rules)
    (sys : SystemTables) (M : Meaning C) (n : ℕ) (forbidden : Line → Bool) (t : ℕ)
    (Far : ℕ → World C → Watched → Type 0) (k : ℕ) (w : World C) (a : Watched) : Type 0 where
  pub event : Event
  pub may : may_come rules sys M n w a event ≡ true
  pub world : World C
  pub alike : R w world
  pub fit : F world event
  pub leads : LeadsNearer R rules forbidden t Far k a (step sys M n world event)

-- Far t k says which worlds are k events away from an act of task t. In each world of the set, each task that is
-- started and may not rest is at some distance from an act, and there is a way on.
pub record HaveWays {C : Type 0} (R : World C → World C → Type 0) (F : World C → Event → Type 0) (rules : Rules)
    (sys : SystemTables) (M : Meaning C) (n : ℕ) (forbidden : Line → Bool) (rest : List Bool)
    (K : World C → Watched → Type 0) (Far : ℕ → ℕ → World C → Watched → Type 0) : Type 0 where
  pub distance :
      (t : ℕ) (w : World C) (a : Watched) → t < length sys.tasks → slice_index_or rest t false ≡ false → K w a →
      (task_at w.state.tasks t).phase ≢ Dormant → (k : ℕ) × Far t k w a
  pub way :
      (t k : ℕ) (w : World C) (a : Watched) → Far t k w a → HasWay R F rules sys M n forbidden t (Far t) k w a

-- a list has this world with this watch at a place at which this distance is noted
pub record IsNoted {C : Type 0} (seen : List (Seen C Watched)) (distances : ℕ → Option ℕ) (k : ℕ) (w : World C)
    (a : Watched) : Type 0 where
  pub place : ℕ
  pub there : slice_get seen place ≡ Some (record { world = w; watch = a })
  pub noted : distances place ≡ Some k

-- Bodies that run outside the kernel, as C functions do: what they do is handed in, and the text of a body says what it
-- may be.
use Rattle.std.specs.Prelude.{◌≡◌, ℕ, ℤ, List, [], ◌∷◌, ◌++◌, Option, Some, None, map}
use Rattle.fmp_base.specs.declared.calls.Reply.{Reply}
use Rattle.fmp_base.specs.declared.events.Event.{Event}
use Rattle.fmp_base.specs.declared.events.Event.TheVariants as event
use Rattle.fmp_base.specs.Meanings.{Meaning, World}
use Rattle.fmp_base.specs.Runs.{Trace, run_on}
use Rattle.fmp_base.specs.Steps.{Reaction, step}
use Rattle.fmp_base.specs.Stretches.{Ending}
use Rattle.fmp_base.specs.Stretches as ends
use Rattle.fmp_base.specs.Systems.{SystemTables}
use Rattle.fmp_outside.specs.declared.given.Act.{Act}
use Rattle.fmp_outside.specs.declared.given.Act.TheVariants as act
use Rattle.fmp_outside.specs.declared.given.Given.{Given}
use Rattle.fmp_outside.specs.declared.given.Given.TheVariants as given
use Rattle.fmp_worlds.specs.Stamps.{Going, actor_at_number, applied, world_after}

-- a stretch that ends with this act, and leaves this context
abbrev pub ending_by : {C : Type 0} → C → Act → Ending C
ending_by c (act.Call made) = ends.Call c made
ending_by c act.End = ends.End c
ending_by c (act.Fault fault) = ends.Fault c fault

-- the act at the end of a stretch; none if the stretch is over its bound
abbrev pub act_of : {C : Type 0} → Ending C → Option Act
act_of (ends.Call c made) = Some (act.Call made)
act_of (ends.End c) = Some act.End
act_of (ends.Fault c fault) = Some (act.Fault fault)
act_of (ends.Over kept) = None

-- the event that it is where the bodies run inside
abbrev pub event_of : Given → Event
event_of (given.Act p a) = event.Run p
event_of given.Tick = event.Tick
event_of (given.Int i) = event.Int i

abbrev pub events_of : List Given → List Event
events_of gs = map event_of gs

-- what it does, in a kernel that keeps contexts which no stretch looks at; d is the one that is handed in with an act
abbrev pub outside_step : {D : Type 0} → SystemTables → Meaning D → (bound : ℕ) → D → World D → Given → Reaction D
outside_step sys F bound d w (given.Act p a) = applied sys F w p (ending_by d a)
outside_step sys F bound d w given.Tick = step sys F bound w event.Tick
outside_step sys F bound d w (given.Int i) = step sys F bound w (event.Int i)

-- one after the other
abbrev pub outside_run : {D : Type 0} → SystemTables → Meaning D → (bound : ℕ) → D → World D → List Given → Trace D
outside_run sys F bound d w [] = record { world = w; events = [] }
outside_run sys F bound d w (g ∷ gs) =
    run_on w (outside_step sys F bound d w g) (λ v. outside_run sys F bound d v gs)

-- the text of the actor, if there is one, does this next
abbrev pub ActsSo : {C : Type 0} → Meaning C → (bound : ℕ) → Act → Option (Going C) → Type 0
ActsSo M bound a None = Unit {0}
ActsSo M bound a (Some g) = act_of (M.stretch g.entry bound g.context) ≡ Some a

-- what comes to this world is what the text does there; ticks and interrupts may come at any time
abbrev pub IsOfText : {C : Type 0} → SystemTables → Meaning C → (bound : ℕ) → World C → Given → Type 0
IsOfText sys M bound w (given.Act p a) = ActsSo M bound a (actor_at_number sys w p)
IsOfText sys M bound w given.Tick = Unit {0}
IsOfText sys M bound w (given.Int i) = Unit {0}

-- so does each, along the run of the text
abbrev pub AreOfText : {C : Type 0} → SystemTables → Meaning C → (bound : ℕ) → World C → List Given → Type 0
AreOfText sys M bound w [] = Unit {0}
AreOfText sys M bound w (g ∷ gs) =
    IsOfText sys M bound w g × AreOfText sys M bound (world_after w (step sys M bound w (event_of g))) gs

-- what a body has been told since its start
pub record History : Type 0 where
  pub exinf : ℤ
  pub replies : List Reply

-- Bodies that read nothing but their extended information and the replies since their start: what each does next is a
-- function of its history.
abbrev pub history_meaning : ((body : ℕ) → History → Act) → Meaning History
history_meaning f =
    record {
      start = λ body exinf. record { exinf = exinf; replies = [] };
      stretch = λ body bound h. ending_by h (f body h);
      deliver = λ body h reply. record h { replies = h.replies ++ reply ∷ [] };
    }

-- Lists of events that bodies complete, however long their stretches, and what holds along all of them. The bodies keep
-- no place: a stretch that is over its bound does nothing.
use Rattle.std.specs.Prelude.{ℕ, suc, ◌≡◌, ◌<◌, List, [], ◌∷◌, Option, Some, None, Bool, true, false}
use Rattle.std.specs.List.{list_any}
use Rattle.fmp_base.specs.declared.bodies.Held.{Held}
use Rattle.fmp_base.specs.declared.bodies.Held.TheVariants.{Goes, Awaits}
use Rattle.fmp_base.specs.declared.events.Event.{Event}
use Rattle.fmp_base.specs.declared.events.Event.TheVariants as event
use Rattle.fmp_base.specs.declared.events.Line.{Line}
use Rattle.fmp_base.specs.declared.states.Caller.{Caller}
use Rattle.fmp_base.specs.Meanings.{Meaning, World, caller_body, context_of}
use Rattle.fmp_base.specs.Setups.{setup}
use Rattle.fmp_base.specs.States.{processor_at}
use Rattle.fmp_base.specs.Steps.{Done, Reaction, Nothing, Did, Kept, actor_of, step}
use Rattle.fmp_base.specs.Stretches.{is_over}
use Rattle.fmp_base.specs.Systems.{SystemTables}
use Rattle.fmp_schedules.specs.Deadlocks.{IsDeadlock}
use Rattle.fmp_schedules.specs.declared.monitor.Monitor.{Monitor}
use Rattle.fmp_schedules.specs.Schedules.{Rules, came_after, is_told, lines_after, may_still, monitors_after, reached}
use Rattle.fmp_schedules.specs.Schedules.{requests, stays_within}
use Rattle.fmp_schedules.specs.Monitors.{all_let, is_any_broken_in, is_broken_along}

-- from this context, if a stretch begins in it, the body ends its stretch within the bound
abbrev pub EndsFrom : {C : Type 0} → Meaning C → (body bound : ℕ) → Option (Held C) → Type 0
EndsFrom M body bound (Some (Goes c)) = is_over (M.stretch body bound c) ≡ false
EndsFrom M body bound (Some (Awaits c)) = Unit {0}
EndsFrom M body bound None = Unit {0}

abbrev pub EndsAs : {C : Type 0} → SystemTables → Meaning C → (bound : ℕ) → World C → (p : ℕ) → Option Caller → Type 0
EndsAs sys M bound w p (Some who) = EndsFrom M (caller_body sys w.contexts p who) bound (context_of w.contexts p who)
EndsAs sys M bound w p None = Unit {0}

-- what runs on the processor at place p, if anything does, ends its stretch within the bound
abbrev pub Ends : {C : Type 0} → SystemTables → Meaning C → (bound : ℕ) → World C → (p : ℕ) → Type 0
Ends sys M bound w p = EndsAs sys M bound w p (actor_of (processor_at w.state p))

-- no processor can do anything, and not for a bound that was too small: nothing runs there, or it spins for a lock
pub record AllStand {C : Type 0} (sys : SystemTables) (M : Meaning C) (bound : ℕ) (w : World C) : Type 0 where
  pub ended : (p : ℕ) → p < sys.processors → Ends sys M bound w p
  pub nothing : (p : ℕ) → p < sys.processors → step sys M bound w (event.Run (suc p)) ≡ Nothing

-- what the rules go by: how many interrupts did something, and what is kept by each monitor
pub record Counts : Type 0 where
  pub came : ℕ
  pub monitors : List Monitor

-- after these lines
abbrev pub counts_after : Rules → Counts → List Line → Counts
counts_after rules c ls =
    record { came = came_after rules.most c.came ls; monitors = monitors_after c.monitors ls }

-- after setup
abbrev pub counts_at_setup : {C : Type 0} → Rules → SystemTables → Meaning C → Counts
counts_at_setup rules sys M = record { came = 0; monitors = monitors_after rules.monitors (setup sys M).lines }

-- the rules let an event be tried in a world, by these counts
abbrev pub MayTry : {C : Type 0} → Rules → SystemTables → Meaning C → (bound : ℕ) → World C → Counts → Event → Type 0
MayTry rules sys M bound w c (event.Run p) = Unit {0}
MayTry rules sys M bound w c event.Tick = rules.idle_ticks ≡ true → AllStand sys M bound w
MayTry rules sys M bound w c (event.Int i) =
    (may_still rules.most c.came ≡ true) × (all_let c.monitors (event.Int i) ≡ true)

-- the rules let an event come to a world, by these counts
abbrev pub MayBe : {C : Type 0} → Rules → SystemTables → Meaning C → (bound : ℕ) → World C → Counts → Event → Type 0
MayBe rules sys M bound w c e =
    MayTry rules sys M bound w c e × (stays_within rules.queued (step sys M bound w e) ≡ true)

-- it is done, and then this is so
abbrev pub DoneThen : {C : Type 0} → Reaction C → (Done C → Type 0) → Type 0
DoneThen Nothing rest = ⊥
DoneThen (Did d) rest = rest d
DoneThen (Kept p w) rest = ⊥

-- From a world on, by these counts, each of these events is done within the bound, and comes as the rules let it.
abbrev pub AreCompleted : {C : Type 0} → Rules → SystemTables → Meaning C → (bound : ℕ) → World C → Counts
    → List Event → Type 0
AreCompleted rules sys M bound w c [] = Unit {0}
AreCompleted rules sys M bound w c (e ∷ es) =
    MayBe rules sys M bound w c e
    × DoneThen (step sys M bound w e) (λ d. AreCompleted rules sys M bound d.world (counts_after rules c d.lines) es)

-- a list of events that bodies complete from setup on: each is done within the bound, and comes as the rules let it
abbrev pub IsCompleted : {C : Type 0} → Rules → SystemTables → Meaning C → (bound : ℕ) → List Event → Type 0
IsCompleted rules sys M bound es =
    AreCompleted rules sys M bound (setup sys M).world (counts_at_setup rules sys M) es

-- a deadlock, and not for a bound that was too small: within some bound each stretch ends
pub record IsLastingDeadlock {C : Type 0} (sys : SystemTables) (M : Meaning C) (w : World C) (rest : List Bool)
    (interrupts : Bool) : Type 0 where
  pub bound : ℕ
  pub ended : (p : ℕ) → p < sys.processors → Ends sys M bound w p
  pub deadlock : IsDeadlock sys M bound w rest interrupts

-- Whatever events the bodies complete within whatever bound, as the rules let them come: no forbidden line is ever
-- told, no line and no state after setup or an event ever breaks a sentence, and no deadlock is ever reached.
pub record HoldsAtAll {C : Type 0} (rules : Rules) (sys : SystemTables) (M : Meaning C) (forbidden : Line → Bool)
    (rest : List Bool) : Type 0 where
  pub never :
      (bound : ℕ) (es : List Event) → IsCompleted rules sys M bound es →
      is_told forbidden (lines_after sys M bound es) ≡ false
  pub by_lines :
      (bound : ℕ) (es : List Event) → IsCompleted rules sys M bound es →
      list_any (λ m. is_broken_along m (lines_after sys M bound es)) rules.monitors ≡ false
  pub by_states :
      (bound : ℕ) (es : List Event) → IsCompleted rules sys M bound es →
      is_any_broken_in rules.monitors (reached sys M bound es).state ≡ false
  pub free :
      (bound : ℕ) (es : List Event) → IsCompleted rules sys M bound es →
      IsLastingDeadlock sys M (reached sys M bound es) rest
      (may_still rules.most (requests (lines_after sys M bound es))) → ⊥

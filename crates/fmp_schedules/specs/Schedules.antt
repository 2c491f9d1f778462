-- Which lists of events are looked at, and what holds along all of them.
use Rattle.std.specs.Prelude.{ℕ, zero, suc, ◌+◌, ◌≡◌, List, [], ◌∷◌, ◌++◌, Option, Some, None, Bool, true, false}
use Rattle.std.specs.Prelude.{count_by, map, sum_by, nat_le, nat_lt, not, ◌&&◌, ◌||◌}
use Rattle.std.specs.List.{list_all, list_any}
use Rattle.fmp_base.specs.declared.events.Event.{Event}
use Rattle.fmp_base.specs.declared.events.Event.TheVariants as event
use Rattle.fmp_base.specs.declared.events.Line.{Line}
use Rattle.fmp_base.specs.declared.events.Line.TheVariants as line
use Rattle.fmp_base.specs.declared.states.TaskBlock.{TaskBlock}
use Rattle.fmp_base.specs.Meanings.{Meaning, World}
use Rattle.fmp_base.specs.Runs.{run}
use Rattle.fmp_base.specs.Setups.{setup}
use Rattle.fmp_base.specs.Steps.{Reaction, Nothing, Did, Kept, step}
use Rattle.fmp_base.specs.Systems.{SystemTables}
use Rattle.fmp_bisimulation.specs.Closed.{AreAllowed, Watch}
use Rattle.fmp_schedules.specs.declared.monitor.Monitor.{Monitor}
use Rattle.fmp_schedules.specs.Deadlocks.{IsDeadlock}
use Rattle.fmp_schedules.specs.Monitors.{all_let, is_any_broken_in, is_broken, is_broken_along, monitor_after}

-- Which events may come, and what is watched. Processors run in any order, any number of times; the rules say when the
-- clock may advance, how many interrupts may come, and how much may be queued.
pub record Rules : Type 0 where
  -- the clock may advance only where no processor can do anything; else at any time
  pub idle_ticks : Bool
  -- how many interrupts may do something; any number, if none is given
  pub most : Option ℕ
  -- how many activations and how many wakeups of a task may be queued after an event; any number, if none is given
  pub queued : Option ℕ
  -- the sentences that are watched, and the limits of single interrupts, with what is kept of each before setup
  pub monitors : List Monitor

-- the line of an interrupt that did something
abbrev pub is_request : Line → Bool
is_request (line.Int i) = true
is_request _ = false

-- how many interrupts did something, by the lines of each event
abbrev pub requests : List (List Line) → ℕ
requests events = sum_by (λ ls. count_by is_request ls) events

-- one more interrupt may come where this many did something
abbrev pub may_still : Option ℕ → (came : ℕ) → Bool
may_still None came = true
may_still (Some most) came = nat_lt came most

abbrev pub is_nothing : {C : Type 0} → Reaction C → Bool
is_nothing Nothing = true
is_nothing (Did d) = false
is_nothing (Kept p w) = false

-- none of the processors with these numbers, 1 and on, can do anything
abbrev pub none_runs : {C : Type 0} → SystemTables → Meaning C → (n : ℕ) → World C → (processors : ℕ) → Bool
none_runs sys M n w zero = true
none_runs sys M n w (suc p) = is_nothing (step sys M n w (event.Run (suc p))) && none_runs sys M n w p

-- what is watched: how many interrupts did something, whether a forbidden line was told, what is kept of each sentence
-- and limit, and whether a line broke a sentence
pub record Watched : Type 0 where
  pub came : ℕ
  pub told : Bool
  pub monitors : List Monitor
  pub broken : Bool

abbrev pub at_first : List Monitor → Watched
at_first monitors = record { came = 0; told = false; monitors = monitors; broken = false }

-- interrupts are counted only if the rules limit them: a count without a limit would make new states without end
abbrev pub came_after : Option ℕ → (came : ℕ) → List Line → ℕ
came_after None came ls = came
came_after (Some most) came ls = came + count_by is_request ls

-- the monitors after these lines
abbrev pub monitors_after : List Monitor → List Line → List Monitor
monitors_after monitors ls = map (λ s. monitor_after s ls) monitors

-- one of these lines breaks one of these sentences
abbrev pub is_any_broken : List Monitor → List Line → Bool
is_any_broken monitors ls = list_any (λ s. is_broken s ls) monitors

abbrev pub watched_on : Rules → (Line → Bool) → Watched → List Line → Watched
watched_on rules forbidden a ls =
    record {
      came = came_after rules.most a.came ls;
      told = a.told || list_any forbidden ls;
      monitors = monitors_after a.monitors ls;
      broken = a.broken || is_any_broken a.monitors ls;
    }

abbrev pub watch : Rules → (Line → Bool) → Watch Watched
watch rules forbidden = record { next = watched_on rules forbidden; is_bad = λ a. a.told || a.broken }

-- at most this many activations and wakeups of a task are queued
abbrev pub is_within : (most : ℕ) → TaskBlock → Bool
is_within most x = nat_le x.activations most && nat_le x.wakeups most

abbrev pub are_within : Option ℕ → List TaskBlock → Bool
are_within None tasks = true
are_within (Some most) tasks = list_all (is_within most) tasks

-- no more are queued after an event that is done; one that keeps a place queues nothing
abbrev pub stays_within : {C : Type 0} → Option ℕ → Reaction C → Bool
stays_within most Nothing = true
stays_within most (Did d) = are_within most d.world.state.tasks
stays_within most (Kept p w) = true

-- the rules let an event be tried in a world: nothing is said yet of what it queues
abbrev pub may_try : {C : Type 0} → Rules → SystemTables → Meaning C → (n : ℕ) → World C → Watched → Event → Bool
may_try rules sys M n w a (event.Run p) = true
may_try rules sys M n w a event.Tick = not rules.idle_ticks || none_runs sys M n w sys.processors
may_try rules sys M n w a (event.Int i) = may_still rules.most a.came && all_let a.monitors (event.Int i)

-- the rules let an event come to a world
abbrev pub may_come : {C : Type 0} → Rules → SystemTables → Meaning C → (n : ℕ) → World C → Watched → Event → Bool
may_come rules sys M n w a e = may_try rules sys M n w a e && stays_within rules.queued (step sys M n w e)

-- what is watched at setup
abbrev pub watched_at_setup : {C : Type 0} → Rules → SystemTables → Meaning C → (Line → Bool) → Watched
watched_at_setup rules sys M forbidden = watched_on rules forbidden (at_first rules.monitors) (setup sys M).lines

-- a list of events that come one after the other from setup on, each as the rules let it come
abbrev pub IsSchedule : {C : Type 0} → Rules → SystemTables → Meaning C → (n : ℕ) → (forbidden : Line → Bool)
    → List Event → Type 0
IsSchedule rules sys M n forbidden es =
    AreAllowed (watch rules forbidden) (may_come rules sys M n) (step sys M n) (setup sys M).world
    (watched_at_setup rules sys M forbidden) es

-- the world after setup and these events
abbrev pub reached : {C : Type 0} → SystemTables → Meaning C → (n : ℕ) → List Event → World C
reached sys M n es = (run sys M n (setup sys M).world es).world

-- the lines of setup, and of each of these events that did something
abbrev pub lines_after : {C : Type 0} → SystemTables → Meaning C → (n : ℕ) → List Event → List (List Line)
lines_after sys M n es = (setup sys M).lines ∷ (run sys M n (setup sys M).world es).events

-- a forbidden line is among these
abbrev pub is_told : (forbidden : Line → Bool) → List (List Line) → Bool
is_told forbidden events = list_any (λ ls. list_any forbidden ls) events

-- Whatever events come, in whatever order, as the rules let them come: no forbidden line is ever told, no line and no
-- state after setup or an event ever breaks a sentence, and no deadlock is ever reached.
pub record Holds {C : Type 0} (rules : Rules) (sys : SystemTables) (M : Meaning C) (n : ℕ) (forbidden : Line → Bool)
    (rest : List Bool) : Type 0 where
  pub never :
      (es : List Event) → IsSchedule rules sys M n forbidden es →
      is_told forbidden (lines_after sys M n es) ≡ false
  pub by_lines :
      (es : List Event) → IsSchedule rules sys M n forbidden es →
      list_any (λ m. is_broken_along m (lines_after sys M n es)) rules.monitors ≡ false
  pub by_states :
      (es : List Event) → IsSchedule rules sys M n forbidden es →
      is_any_broken_in rules.monitors (reached sys M n es).state ≡ false
  pub free :
      (es : List Event) → IsSchedule rules sys M n forbidden es →
      IsDeadlock sys M n (reached sys M n es) rest (may_still rules.most (requests (lines_after sys M n es))) → ⊥

-- an event tells no line that is forbidden in the world that it leaves
abbrev pub IsSilent : {C : Type 0} → (forbidden : World C → Line → Bool) → Reaction C → Type 0
IsSilent forbidden Nothing = Unit {0}
IsSilent forbidden (Did d) = list_any (forbidden d.world) d.lines ≡ false
IsSilent forbidden (Kept p w) = Unit {0}

-- Whatever events come, in whatever order, as the rules let them come: none of them ever tells a line that is forbidden
-- in the world that the event leaves.
pub record HoldsThere {C : Type 0} (rules : Rules) (sys : SystemTables) (M : Meaning C) (n : ℕ)
    (forbidden : Line → Bool) (forbidden_there : World C → Line → Bool) : Type 0 where
  pub silent :
      (es : List Event) (e : Event) → IsSchedule rules sys M n forbidden (es ++ e ∷ []) →
      IsSilent forbidden_there (step sys M n (reached sys M n es) e)

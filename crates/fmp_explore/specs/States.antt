-- The states that a search keeps: rows. A row tells the numbers of a world, and what is kept of the sentences there.
use Rattle.std.specs.Prelude.{Bool}
use Rattle.std.specs.List.{flat_map}
use Rattle.std.specs.Prelude.{ℕ, ◌≡◌, ◌<◌, List, [], ◌∷◌, ◌++◌, Option, Some, None, true, false, is_some, map}
use Rattle.std.specs.Prelude.{slice_get}
use Rattle.fmp_bisimulation.specs.Closed.{LeadsIn}
use Rattle.fmp_base.specs.declared.events.Event.{Event}
use Rattle.fmp_base.specs.Meanings.{World}
use Rattle.fmp_base.specs.Steps.{Reaction, step}
use Rattle.fmp_base.specs.Systems.{SystemTables}
use Rattle.fmp_question.specs.declared.question.Question.{Question}
use Rattle.fmp_question.specs.Forbidden.{forbids}
use Rattle.fmp_question.specs.Sites.{forbids_there}
use Rattle.fmp_question.specs.Rules.{rules_of}
use Rattle.fmp_fields.specs.declared.field.What.{What}
use Rattle.fmp_fields.specs.FieldNumbers.{number_of}
use Rattle.fmp_instructions.specs.declared.instructions.MachineContext.{MachineContext}
use Rattle.fmp_live.specs.Fits.{IsFit}
use Rattle.fmp_live.specs.LiveLocals.{AreLiveTables, LiveTable}
use Rattle.fmp_live.specs.Zeroed.{IsLike, zeroed}
use Rattle.fmp_reachable.specs.Sound.{IsSound}
use Rattle.fmp_schedules.specs.Deadlocks.{IsDeadlock}
use Rattle.fmp_monitors.specs.declared.standing.Standing.{Standing}
use Rattle.fmp_monitors.specs.declared.standing.Standing.TheVariants as standing
use Rattle.fmp_schedules.specs.declared.monitor.Monitor.{Monitor}
use Rattle.fmp_schedules.specs.Monitors.{is_any_broken_in}
use Rattle.fmp_schedules.specs.Schedules.{IsSilent, Watched, may_come, may_still, watch}
use Rattle.fmp_schedules.specs.Tried.{is_event_of}
use Rattle.fmp_visited.specs.Rows.{AreValues, row_of}
use Rattle.fmp_witness.specs.Asked.{Asked, meaning_of}

-- how many interrupts came, where their number is limited
abbrev pub counted : Option ℕ → (came : ℕ) → ℕ
counted None came = 0
counted (Some most) came = came

-- what is watched where this many interrupts came, no forbidden line was told, and no line broke a sentence
abbrev pub watched_with : Question → (came : ℕ) → List Monitor → Watched
watched_with q came monitors =
    record { came = counted q.interrupts came; told = false; monitors = monitors; broken = false }

-- where the number of interrupts is limited, it fits a byte
abbrev pub AreFew : Question → (came : ℕ) → Type 0
AreFew q came = is_some q.interrupts ≡ true → came < 256

-- the second monitors are of the same sentences as the first
abbrev pub AreMonitorsOf : (monitors held : List Monitor) → Type 0
AreMonitorsOf [] [] = Unit {0}
AreMonitorsOf (s ∷ ss) (t ∷ ts) = (t ≡ record s { standing = t.standing }) × AreMonitorsOf ss ts
AreMonitorsOf [] (t ∷ ts) = ⊥
AreMonitorsOf (s ∷ ss) [] = ⊥

-- the kind of what is kept of a sentence
abbrev pub kind_number : Standing → ℕ
kind_number standing.Open = 0
kind_number standing.Held = 1
kind_number (standing.Inside t) = 2
kind_number (standing.Waiting left) = 3

-- the task that is inside, or how many ticks may still come
abbrev pub value_number : Standing → ℕ
value_number standing.Open = 0
value_number standing.Held = 0
value_number (standing.Inside t) = t
value_number (standing.Waiting left) = left

-- the two numbers of what is kept of a sentence
abbrev pub monitor_numbers : Monitor → List ℕ
monitor_numbers m = kind_number m.standing ∷ value_number m.standing ∷ []

-- the numbers of the fields in a world, with 0 for each local that these tables call dead, and of what is kept of the
-- sentences
abbrev pub numbers_in : SystemTables → List LiveTable → List What → World MachineContext → (came : ℕ) → List Monitor
    → List ℕ
numbers_in sys tables fields w came monitors =
    map (number_of sys (zeroed sys tables w) came) fields ++ flat_map (λ m. monitor_numbers m) monitors

-- the row of these numbers, each of which is one of 32 bits
pub record IsRowOf (first numbers row : List ℕ) : Type 0 where
  pub values : AreValues numbers
  pub is : row ≡ row_of first numbers

-- whether out places count as written by every reply; the fields, the numbers of the first state, and the rows that are
-- kept
pub record KeptRows : Type 0 where
  pub outs : Bool
  pub fields : List What
  pub first : List ℕ
  pub rows : List (List ℕ)

-- a sound world, where this is watched, has a row, by tables of live locals
pub record HasRow (asked : Asked) (kept : KeptRows) (w : World MachineContext) (a : Watched)
    (row : List ℕ) : Type 0 where
  pub sound : IsSound asked.image.system asked.image.code w
  pub came : ℕ
  pub few : AreFew asked.question came
  pub held : AreMonitorsOf asked.question.monitors.items a.monitors
  pub watch : a ≡ watched_with asked.question came a.monitors
  pub tables : List LiveTable
  pub live : AreLiveTables kept.outs asked.image.code tables
  pub is : IsRowOf kept.first (numbers_in asked.image.system tables kept.fields w came a.monitors) row

-- such a world has one of the rows that are kept
pub record IsKept (asked : Asked) (kept : KeptRows) (w : World MachineContext) (a : Watched) : Type 0 where
  pub state : ℕ
  pub row : List ℕ
  pub there : slice_get kept.rows state ≡ Some row
  pub has : HasRow asked kept w a row

-- what an event does in a world
abbrev pub reaction_in : Asked → World MachineContext → Event → Reaction MachineContext
reaction_in asked w e = step asked.image.system (meaning_of asked) asked.bound w e

-- an event leads to a world with a row that is kept, if it leads to any, and tells no answer that must never be given
-- to its call; and the event fits
pub record LeadsOn (asked : Asked) (kept : KeptRows) (w : World MachineContext) (a : Watched) (e : Event) : Type 0 where
  pub fit : IsFit kept.outs asked.image.system asked.image.code asked.bound w e
  pub leads :
      LeadsIn (IsLike kept.outs asked.image.system asked.image.code)
      (watch (rules_of asked.question) (forbids asked.question.nevers.items)) (IsKept asked kept) a
      (reaction_in asked w e)
  pub silent : IsSilent (forbids_there asked.image.system asked.question.nevers_at.items) (reaction_in asked w e)

-- the rules let an event come to a world
abbrev pub MayCome : Asked → World MachineContext → Watched → Event → Type 0
MayCome asked w a e = may_come (rules_of asked.question) asked.image.system (meaning_of asked) asked.bound w a e ≡ true

-- a world is a deadlock
abbrev pub IsStuckIn : Asked → World MachineContext → Watched → Type 0
IsStuckIn asked w a =
    IsDeadlock asked.image.system (meaning_of asked) asked.bound w asked.question.rest.items
    (may_still asked.question.interrupts a.came)

-- each event that may come to a world leads to a row that is kept, the state breaks no sentence, and the world is no
-- deadlock
pub record IsTriedOut (asked : Asked) (kept : KeptRows) (w : World MachineContext) (a : Watched) : Type 0 where
  pub each : (e : Event) → is_event_of asked.image.system e ≡ true → MayCome asked w a e → LeadsOn asked kept w a e
  pub upheld : is_any_broken_in asked.question.monitors.items w.state ≡ false
  pub free : IsStuckIn asked w a → ⊥

-- so it is of some world with this row
pub record IsExamined (asked : Asked) (kept : KeptRows) (row : List ℕ) : Type 0 where
  pub world : World MachineContext
  pub watched : Watched
  pub has : HasRow asked kept world watched row
  pub tried : IsTriedOut asked kept world watched

-- What holds of a search under way.
use Rattle.std.specs.Prelude.{ℕ, ◌≡◌, ◌+◌, ◌<◌, ◌≤◌, ◌^◌, List, [], ◌++◌, Option, Some, None, true, false, count_by}
use Rattle.std.specs.Prelude.{◌*◌, All, is_some, length}
use Rattle.std.specs.Prelude.{slice_get, unwrap_or}
use Rattle.fmp_visited.specs.Rows.{row_of}
use Rattle.fmp_base.specs.declared.events.Effect.{Effect}
use Rattle.fmp_base.specs.declared.events.Event.{Event}
use Rattle.fmp_base.specs.declared.events.Event.TheVariants as event
use Rattle.fmp_base.specs.Meanings.{World}
use Rattle.fmp_base.specs.Setups.{setup}
use Rattle.fmp_base.specs.Steps.{Done, Did, Kept, Nothing, effect_of}
use Rattle.fmp_question.specs.declared.question.Question.{Question}
use Rattle.fmp_explore.specs.declared.searching.Ending.{Ending}
use Rattle.fmp_explore.specs.declared.searching.Ending.TheVariants as ending
use Rattle.fmp_explore.specs.declared.rows.Rows.{Rows}
use Rattle.fmp_explore.specs.declared.searches.Search.{Search}
use Rattle.fmp_explore.specs.declared.kernels.KernelPair.{KernelPair}
use Rattle.fmp_explore.specs.declared.trying.Attempt.{Attempt}
use Rattle.fmp_explore.specs.declared.trying.ExaminedState.{ExaminedState}
use Rattle.fmp_explore.specs.declared.trying.Examination.{Examination}
use Rattle.fmp_explore.specs.declared.trying.StateMarks.{StateMarks}
use Rattle.fmp_witness.specs.declared.finding.Finding.{Finding}
use Rattle.fmp_witness.specs.Findings.{IsFound}
use Rattle.fmp_witness.specs.Followed.{IsOver}
use Rattle.fmp_question.specs.Forbidden.{forbids}
use Rattle.fmp_question.specs.Sites.{forbids_there}
use Rattle.fmp_question.specs.Rules.{rules_of}
use Rattle.fmp_explore.specs.States.{AreFew, AreMonitorsOf}
use Rattle.fmp_explore.specs.States.{HasRow, IsExamined, IsKept, IsStuckIn, IsTriedOut, KeptRows, LeadsOn, MayCome}
use Rattle.fmp_explore.specs.States.{reaction_in, watched_with}
use Rattle.fmp_schedules.specs.Tries.{all_tries}
use Rattle.fmp_fields.specs.Fields.{AreAllFields}
use Rattle.fmp_image_bytes.specs.Images.{ImageTables}
use Rattle.fmp_instructions.specs.Instructions.{BodyTables}
use Rattle.fmp_instructions.specs.Machine.{code_meaning}
use Rattle.fmp_instructions.specs.declared.instructions.MachineContext.{MachineContext}
use Rattle.fmp_kernel.specs.KernelViews.{KernelView, view_after}
use Rattle.fmp_live.specs.LiveLocals.{AreLiveTables, live_tables}
use Rattle.fmp_reachable.specs.Sound.{IsSound}
use Rattle.fmp_replay.specs.Replays.{replay}
use Rattle.fmp_schedules.specs.Deadlocks.{is_interrupt}
use Rattle.fmp_schedules.specs.declared.monitor.Monitor.{Monitor}
use Rattle.fmp_schedules.specs.Monitors.{is_any_broken_in}
use Rattle.fmp_schedules.specs.Schedules.{Holds, HoldsThere, Watched, may_still, none_runs, monitors_after}
use Rattle.fmp_schedules.specs.Schedules.{watched_at_setup}
use Rattle.fmp_witness.specs.Asked.{Asked, asked_of, meaning_of}

-- ---- kernels

-- a kernel of the image, at the bound, in whatever state
abbrev pub IsKernelOf : Asked → KernelView (List BodyTables) MachineContext → Type 0
IsKernelOf asked k = IsOver asked.image asked.bound k

-- both kernels are so
pub record AreKernelsOf (asked : Asked) (kernels : KernelPair) : Type 0 where
  pub top : IsKernelOf asked kernels.top
  pub work : IsKernelOf asked kernels.work

-- such a kernel in a sound world
pub record IsSoundKernel (asked : Asked) (k : KernelView (List BodyTables) MachineContext) : Type 0 where
  pub over : IsKernelOf asked k
  pub sound : IsSound asked.image.system asked.image.code k.world

-- a kernel of the image that can take an event, in a sound world
pub record CanStep (asked : Asked) (k : KernelView (List BodyTables) MachineContext) : Type 0 where
  pub over : IsKernelOf asked k
  pub early : k.taken < 2 ^ 20
  pub sound : IsSound asked.image.system asked.image.code k.world

-- what an event has done on a kernel, and the kernel then
pub record HasStepped (asked : Asked) (before : KernelView (List BodyTables) MachineContext) (e : Event)
    (k : KernelView (List BodyTables) MachineContext) (x : Effect) : Type 0 where
  pub could : CanStep asked before
  pub effect : x ≡ effect_of (reaction_in asked before.world e)
  pub kernel : k ≡ view_after before (reaction_in asked before.world e)

-- an event was done in a world
pub record HasDone (asked : Asked) (w : World MachineContext) (e : Event)
    (k : KernelView (List BodyTables) MachineContext) : Type 0 where
  pub done : Done MachineContext
  pub did : reaction_in asked w e ≡ Did done
  pub lines : k.lines ≡ done.lines
  pub world : k.world ≡ done.world

-- an event kept a place in a world
pub record HasKeptPlace (asked : Asked) (w : World MachineContext) (e : Event)
    (k : KernelView (List BodyTables) MachineContext) : Type 0 where
  pub place : ℕ
  pub keeps : reaction_in asked w e ≡ Kept place k.world

-- ---- searches

-- the rows that a search keeps
abbrev pub rows_of : Search → KeptRows
rows_of s =
    record { outs = s.rows.outs; fields = s.rows.fields.items; first = s.rows.first.items; rows = s.seen.rows }

-- the live locals by which rows are written are those of the image
abbrev pub HasLive : Asked → Rows → Type 0
HasLive asked r = AreLiveTables r.outs asked.image.code (live_tables r.live)

-- the numbers that were taken last are those of a row, if the row was found to be the one that is written for them
abbrev pub HasTold : Rows → (row : List ℕ) → Type 0
HasTold r row = r.exact ≡ true → row ≡ row_of r.first.items r.told.items

-- the same of the row of the state that is examined
abbrev pub IsTold : Search → ExaminedState → Type 0
IsTold s at = HasTold s.rows (unwrap_or (slice_get s.seen.rows at.state) [])

-- the fields, the live locals and the events of a search are those of its image
pub record IsSearchOf (asked : Asked) (s : Search) : Type 0 where
  pub tries : s.tries.items ≡ all_tries asked.image.system
  pub fields : AreAllFields asked.image.system asked.image.code (is_some asked.question.interrupts) s.rows.fields.items
  pub live : HasLive asked s.rows

-- a search that has no state yet
pub record IsFresh (asked : Asked) (s : Search) : Type 0 where
  pub table : IsSearchOf asked s
  pub none : s.seen.rows ≡ []

-- a search that keeps states
pub record IsSearch (asked : Asked) (s : Search) : Type 0 where
  pub table : IsSearchOf asked s
  pub first : length s.rows.first.items ≡ length s.rows.fields.items + 2 * length asked.question.monitors.items

-- two searches have the same events, fields, live locals and first numbers
pub record SameTable (old new : Search) : Type 0 where
  pub tries : new.tries.items ≡ old.tries.items
  pub fields : new.rows.fields.items ≡ old.rows.fields.items
  pub first : new.rows.first.items ≡ old.rows.first.items
  pub outs : new.rows.outs ≡ old.rows.outs
  pub live : new.rows.live ≡ old.rows.live

-- a search has gone on: it keeps more states, or as many
pub record Grows (old new : Search) : Type 0 where
  pub same : SameTable old new
  pub more : List (List ℕ)
  pub rows : new.seen.rows ≡ old.seen.rows ++ more
  pub sure : new.sure ≡ true → old.sure ≡ true

-- a search keeps the same states
pub record Stays (old new : Search) : Type 0 where
  pub same : SameTable old new
  pub seen : new.seen ≡ old.seen
  pub sure : new.sure ≡ true → old.sure ≡ true

-- a world is kept
pub record HasKept (asked : Asked) (old new : Search) (w : World MachineContext) (a : Watched) : Type 0 where
  pub grows : Grows old new
  pub known : new.sure ≡ true → IsKept asked (rows_of new) w a

-- the monitors after setup
abbrev pub monitors_at_setup : Asked → List Monitor
monitors_at_setup asked =
    monitors_after asked.question.monitors.items (setup asked.image.system (meaning_of asked)).lines

-- what is watched in the state in which a search begins
abbrev pub watched_first : Asked → Watched
watched_first asked =
    watched_with asked.question (count_by is_interrupt asked.question.after.items) (monitors_at_setup asked)

-- no line of setup is forbidden, and none breaks a sentence
abbrev pub IsClean : Asked → Type 0
IsClean asked =
    watched_with asked.question 0 (monitors_at_setup asked)
    ≡ watched_at_setup (rules_of asked.question) asked.image.system (meaning_of asked)
    (forbids asked.question.nevers.items)

-- the state in which the search begins is kept
pub record IsBegun (asked : Asked) (s : Search) : Type 0 where
  pub search : IsSearch asked s
  pub clean : s.sure ≡ true → IsClean asked
  pub first :
      s.sure ≡ true →
      IsKept asked (rows_of s) (replay asked.image asked.bound asked.question.after.items).world (watched_first asked)

-- a state that is examined, as its row tells it: its interrupts fit a byte, where their number is limited, and its
-- monitors are those of the question
pub record IsStateFor (asked : Asked) (at : ExaminedState) : Type 0 where
  pub few : AreFew asked.question at.came
  pub held : AreMonitorsOf asked.question.monitors.items at.monitors.items

-- what is watched in a state that is examined
abbrev pub watched_in : Question → ExaminedState → Watched
watched_in q at = watched_with q at.came at.monitors.items

-- what is asked where a state is examined
abbrev pub asked_here : Examination → Asked
asked_here here = asked_of here.subject.now

-- what is watched there
abbrev pub watched_here : Examination → Watched
watched_here here = watched_in (asked_here here).question here.at.now

-- a kernel is in the state that is examined: it has the row that is kept of it
pub record StandsAt (asked : Asked) (s : Search) (at : ExaminedState)
    (k : KernelView (List BodyTables) MachineContext) : Type 0 where
  pub ready : CanStep asked k
  pub row : List ℕ
  pub there : slice_get s.seen.rows at.state ≡ Some row
  pub has : HasRow asked (rows_of s) k.world (watched_in asked.question at) row

-- what an event leads to is kept, if it may come
pub record HasDealt (asked : Asked) (old new : Search) (w : World MachineContext)
    (a : Watched) (e : Event) : Type 0 where
  pub grows : Grows old new
  pub leads : new.sure ≡ true → MayCome asked w a e → LeadsOn asked (rows_of new) w a e

-- an interrupt that may come does something
pub record HasRequest (asked : Asked) (w : World MachineContext) (a : Watched) : Type 0 where
  pub number : ℕ
  pub first : 1 ≤ number
  pub last : number < 33
  pub may : may_still asked.question.interrupts a.came ≡ true
  pub does : reaction_in asked w (event.Int number) ≡ Nothing → ⊥

-- these marks tell what was done in a world
pub record AreMarks (asked : Asked) (w : World MachineContext) (a : Watched) (m : StateMarks) : Type 0 where
  pub idle :
      m.idle ≡ false → none_runs asked.image.system (meaning_of asked) asked.bound w asked.image.system.processors
      ≡ false
  pub interrupted : m.interrupted ≡ true → HasRequest asked w a

-- how many interrupts came after an event, where their number is limited
abbrev pub came_on : Option ℕ → (came : ℕ) → Event → ℕ
came_on None came e = 0
came_on (Some most) came (event.Int number) = came + 1
came_on (Some most) came _ = came

-- what is watched after an event that is tried, with these monitors
abbrev pub watched_after : Attempt → List Monitor → Watched
watched_after attempt monitors =
    watched_with (asked_here attempt.here).question
    (came_on (asked_here attempt.here).question.interrupts attempt.here.at.now.came attempt.event) monitors

-- the state is one of those that are examined, and the interrupts still fit a byte with the event
pub record IsAttempt (attempt : Attempt) : Type 0 where
  pub state : IsStateFor (asked_here attempt.here) attempt.here.at.now
  pub few :
      AreFew (asked_here attempt.here).question
      (came_on (asked_here attempt.here).question.interrupts attempt.here.at.now.came attempt.event)

-- what the event leads to in a world is kept, if it may come
abbrev pub HasDealtWith : Attempt → (old new : Search) → World MachineContext → Type 0
HasDealtWith attempt old new w =
    HasDealt (asked_here attempt.here) old new w (watched_here attempt.here) attempt.event

-- where the event is an interrupt, it may come
abbrev pub MayRequest : Question → Watched → Event → Type 0
MayRequest q a (event.Int number) = may_still q.interrupts a.came ≡ true
MayRequest q a _ = Unit {0}

-- the marks after an event that did something
abbrev pub marked : StateMarks → Event → StateMarks
marked m (event.Run p) = record m { idle = false }
marked m event.Tick = m
marked m (event.Int i) = record m { interrupted = true }

-- the first events of those that are tried were tried in a world, this many
pub record IsTrying (asked : Asked) (w : World MachineContext) (a : Watched) (m : StateMarks)
    (tried : ℕ) (s : Search) : Type 0 where
  pub search : IsSearch asked s
  pub marks : AreMarks asked w a m
  pub each :
      s.sure ≡ true → (place : ℕ) (e : Event) → place < tried →
      slice_get (all_tries asked.image.system) place ≡ Some e → MayCome asked w a e →
      LeadsOn asked (rows_of s) w a e

-- this many events were tried in a world
pub record HasTried (asked : Asked) (w : World MachineContext) (a : Watched) (m : StateMarks)
    (old new : Search) (tried : ℕ) : Type 0 where
  pub trying : IsTrying asked w a m tried new
  pub grows : Grows old new

-- a world was looked at: it is no deadlock
pub record HasLooked (asked : Asked) (old new : Search) (w : World MachineContext) (a : Watched) : Type 0 where
  pub stays : Stays old new
  pub free : new.sure ≡ true → IsStuckIn asked w a → ⊥

-- it was checked whether a world is a deadlock, and whether its state breaks a sentence
pub record HasLookedAt (asked : Asked) (old new : Search) (w : World MachineContext) (a : Watched) : Type 0 where
  pub stays : Stays old new
  pub upheld : new.sure ≡ true → is_any_broken_in asked.question.monitors.items w.state ≡ false
  pub free : new.sure ≡ true → IsStuckIn asked w a → ⊥

-- a world was tried out
pub record HasTriedOut (asked : Asked) (old new : Search) (w : World MachineContext) (a : Watched) : Type 0 where
  pub search : IsSearch asked new
  pub grows : Grows old new
  pub tried : new.sure ≡ true → IsTriedOut asked (rows_of new) w a

-- the state at a place was examined
pub record HasExamined (asked : Asked) (old new : Search) (state : ℕ) : Type 0 where
  pub search : IsSearch asked new
  pub grows : Grows old new
  pub examined :
      new.sure ≡ true → (row : List ℕ) → slice_get old.seen.rows state ≡ Some row →
      IsExamined asked (rows_of new) row

-- the first states were examined, this many
pub record IsSearching (asked : Asked) (states : ℕ) (s : Search) : Type 0 where
  pub begun : IsBegun asked s
  pub each :
      s.sure ≡ true → (k : ℕ) (row : List ℕ) → k < states → slice_get s.seen.rows k ≡ Some row →
      IsExamined asked (rows_of s) row

-- every state was examined
pub record IsWhole (asked : Asked) (s : Search) : Type 0 where
  pub begun : IsBegun asked s
  pub each :
      s.sure ≡ true → (k : ℕ) (row : List ℕ) → slice_get s.seen.rows k ≡ Some row →
      IsExamined asked (rows_of s) row

-- a search that ended because no state is left has examined every state
abbrev pub HasEnded : Asked → Search → Ending → Type 0
HasEnded asked s how = how ≡ ending.Complete → IsWhole asked s

-- nothing that is asked about is found along any schedule
pub record NothingIsFound (i : ImageTables) (n : ℕ) (q : Question) : Type 0 where
  pub holds : Holds (rules_of q) i.system (code_meaning i.code) n (forbids q.nevers.items) q.rest.items
  pub there :
      HoldsThere (rules_of q) i.system (code_meaning i.code) n (forbids q.nevers.items)
      (forbids_there i.system q.nevers_at.items)

-- the same of what is asked
abbrev pub NoneIsFound : Asked → Type 0
NoneIsFound asked = NothingIsFound asked.image asked.bound asked.question

-- findings are so
abbrev pub AreFound : Asked → List Finding → Type 0
AreFound asked findings = All (IsFound asked.image asked.bound asked.question) findings

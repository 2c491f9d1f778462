-- Two runs side by side.
use Rattle.std.specs.Prelude.{◌≡◌, ℕ, ◌+◌, ◌-◌, ◌<◌, ◌^◌, zero, suc, List, [], ◌∷◌, ◌++◌, Option, Some, None, Bool}
use Rattle.std.specs.Prelude.{true}
use Rattle.std.specs.Prelude.{false, if◌then◌else◌, bytes_eq, codes, length, map, max, nat_eq, slice_get}
use Rattle.fmp_base.specs.declared.events.TaskState.{TaskState}
use Rattle.fmp_base.specs.declared.states.TaskBlock.{TaskBlock}
use Rattle.fmp_base.specs.Systems.{SystemTables, tables_of}
use Rattle.fmp_base.specs.declared.events.Line.{Line}
use Rattle.fmp_base.specs.Meanings.{Meaning}
use Rattle.fmp_base.specs.Steps.{Reaction}
use Rattle.fmp_frames.specs.Frames.{FrameTable, frames_of_each}
use Rattle.fmp_frames.specs.Shown.{frame_now, number_after}
use Rattle.fmp_kernel.specs.KernelViews.{KernelView}
use Rattle.fmp_named.specs.Lines.{named_lines}
use Rattle.fmp_named.specs.States.{named_state}
use Rattle.fmp_frames.specs.declared.comparing.ToldRun.{ToldRun}

-- the states are those of a frame
pub record AreStates (x : ToldRun) (f : FrameTable) : Type 0 where
  pub states : x.states.items ≡ f.states
  pub blocks : x.blocks.items ≡ f.blocks

-- what a run tells of setup and of each event: the lines of each number
abbrev pub events_of : ToldRun → List (List ℕ)
events_of x = map (λ text. text.items) x.texts.items

-- what the event of a number tells: these lines; one that kept a place tells nothing
abbrev pub told_at : SystemTables → (number : ℕ) → (kept : Option ℕ) → List Line → List (List ℕ)
told_at sys n None lines = named_lines sys n lines ∷ []
told_at sys n (Some p) lines = []

-- what frames tell, where the first event that is done has this number
abbrev pub told_from : SystemTables → (number : ℕ) → List FrameTable → List (List ℕ)
told_from sys n [] = []
told_from sys n (f ∷ fs) = told_at sys n f.kept f.lines ++ told_from sys (number_after n f.kept) fs

-- what a run tells of setup, which is event 0, and of each event of what came after it
abbrev pub run_told : {B C X : Type 0} → SystemTables → (B → Meaning C) → (KernelView B C → X → Reaction C)
    → KernelView B C → List X → List (List ℕ)
run_told sys meaning reaction k xs =
    told_from sys 0 (frame_now meaning k ∷ frames_of_each meaning reaction k xs)

-- one frame more is told, and the states are those of it; numbers of events are below 2^32
pub record IsToldFurther (x : ToldRun) (f : FrameTable) (y : ToldRun) : Type 0 where
  pub states : AreStates y f
  pub sys : y.sys ≡ x.sys
  pub events : length (events_of x) < 2 ^ 32
      → events_of y ≡ events_of x ++ told_at (tables_of x.sys.now) (length (events_of x)) f.kept f.lines

-- the first place at which two lists differ, which may be the end of one of them; none if they are the same
abbrev pub IsFirstDifference : {X : Type 0} → List X → List X → Option ℕ → Type 0
IsFirstDifference xs ys None = xs ≡ ys
IsFirstDifference xs ys (Some k) =
    ((i : ℕ) → i < k → slice_get xs i ≡ slice_get ys i) × (slice_get xs k ≡ slice_get ys k → ⊥)

-- a text with a mark before each of its lines; whether a line begins here is told
abbrev pub marked_from : (begins : Bool) → (mark text : List ℕ) → List ℕ
marked_from begins mark [] = []
marked_from true mark (c ∷ cs) = mark ++ (c ∷ marked_from (nat_eq c 10) mark cs)
marked_from false mark (c ∷ cs) = c ∷ marked_from (nat_eq c 10) mark cs

unfoldable pub marked : (mark text : List ℕ) → List ℕ
marked mark text = marked_from true mark text

-- the text of an event, or that there is none
abbrev pub event_or : Option (List ℕ) → List ℕ
event_or None = codes "the run has ended\n"
event_or (Some text) = text

-- the event of a number in a run, after a mark
abbrev pub event_shown : (mark : List ℕ) → ToldRun → (number : ℕ) → List ℕ
event_shown mark x n = marked mark (event_or (slice_get (events_of x) n))

-- this many events of a run from a number on, after blanks
abbrev pub events_shown : ToldRun → (number count : ℕ) → List ℕ
events_shown x n zero = []
events_shown x n (suc count) = event_shown (codes "  ") x n ++ events_shown x (n + 1) count

-- the line of the state of task t, if there is such a task
abbrev pub state_or : SystemTables → (t : ℕ) → Option TaskState → Option TaskBlock → List ℕ
state_or sys t (Some x) (Some b) = named_state sys t x b
state_or sys t _ _ = []

abbrev pub state_line : ToldRun → (t : ℕ) → List ℕ
state_line x t = state_or (tables_of x.sys.now) t (slice_get x.states.items t) (slice_get x.blocks.items t)

-- two lines that are not the same
abbrev pub beside : List ℕ → List ℕ → List ℕ
beside one other = if bytes_eq one other then [] else marked (codes "- ") one ++ marked (codes "+ ") other

-- the states of as many tasks from t on that are not the same at the ends of two runs
abbrev pub states_beside : (a b : ToldRun) → (t count : ℕ) → List ℕ
states_beside a b t zero = []
states_beside a b t (suc count) = beside (state_line a t) (state_line b t) ++ states_beside a b (t + 1) count

-- how many tasks have states at the end of one of two runs
abbrev pub task_count : (a b : ToldRun) → ℕ
task_count a b = max (length a.states.items) (length b.states.items)

-- the event of a number in which two runs differ, after up to five events before it
abbrev pub events_beside : (a b : ToldRun) → (number : ℕ) → List ℕ
events_beside a b n =
    events_shown a (n - 5) (n - (n - 5)) ++ (event_shown (codes "- ") a n ++ event_shown (codes "+ ") b n)

-- the same, and after it the states that differ then, at these ends of the runs
abbrev pub difference : (a b : ToldRun) → (number : ℕ) → (end_a end_b : ToldRun) → List ℕ
difference a b n end_a end_b =
    events_beside a b n
    ++ states_beside end_a end_b 0 (task_count end_a end_b)

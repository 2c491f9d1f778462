-- Runs over lists of events, and what is shown of the tasks at the end.
use Rattle.std.specs.Prelude.{ℕ, List, [], ◌∷◌, Option, Some, None, Bool, true, false}
use Rattle.fmp_base.specs.declared.events.Effect.{Effect}
use Rattle.fmp_base.specs.declared.events.Effect.TheVariants as effect
use Rattle.fmp_base.specs.declared.events.Event.{Event}
use Rattle.fmp_base.specs.declared.events.Line.{Line}
use Rattle.fmp_base.specs.declared.events.StateWord.{StateWord}
use Rattle.fmp_base.specs.declared.events.StateWord.TheVariants as word
use Rattle.fmp_base.specs.declared.events.TaskState.{TaskState}
use Rattle.fmp_base.specs.declared.states.Phase.{Phase}
use Rattle.fmp_base.specs.declared.states.Phase.TheVariants.{Dormant, Ready, Waiting}
use Rattle.fmp_base.specs.declared.states.TaskBlock.{TaskBlock}
use Rattle.fmp_base.specs.Meanings.{Meaning, World}
use Rattle.fmp_base.specs.Settles.{is_same_task}
use Rattle.fmp_base.specs.States.{KernelState, task_at, processor_at}
use Rattle.fmp_base.specs.Steps.{Reaction, Nothing, Did, Kept, step}
use Rattle.fmp_base.specs.Systems.{SystemTables}

-- the world at the end of a run, and the lines of each event that is done, in order
pub record Trace (C : Type 0) : Type 0 where
  pub world : World C
  pub events : List (List Line)

abbrev pub after_first : {C : Type 0} → List Line → Trace C → Trace C
after_first ls r = record r { events = ls ∷ r.events }

abbrev pub run_on : {C : Type 0} → World C → Reaction C → (World C → Trace C) → Trace C
run_on w Nothing rest = rest w
run_on w (Did d) rest = after_first d.lines (rest d.world)
run_on w (Kept p v) rest = rest v

-- a run: one event after the other; those that do nothing or keep a place leave no lines
abbrev pub run : {C : Type 0} → SystemTables → Meaning C → (bound : ℕ) → World C → List Event → Trace C
run sys M bound w [] = record { world = w; events = [] }
run sys M bound w (e ∷ es) = run_on w (step sys M bound w e) (λ v. run sys M bound v es)

abbrev pub done_on : {C : Type 0} → World C → Event → Reaction C → (World C → List Event) → List Event
done_on w e Nothing rest = rest w
done_on w e (Did d) rest = e ∷ rest d.world
done_on w e (Kept p v) rest = rest v

-- the events of a run that are done
abbrev pub done_events : {C : Type 0} → SystemTables → Meaning C → (bound : ℕ) → World C → List Event → List Event
done_events sys M bound w [] = []
done_events sys M bound w (e ∷ es) = done_on w e (step sys M bound w e) (λ v. done_events sys M bound v es)

abbrev pub taken_on : {C : Type 0} → World C → Event → Reaction C → (World C → List Event) → List Event
taken_on w e Nothing rest = rest w
taken_on w e (Did d) rest = e ∷ rest d.world
taken_on w e (Kept p v) rest = e ∷ rest v

-- the events of a run that are done or keep a place
abbrev pub taken_events : {C : Type 0} → SystemTables → Meaning C → (bound : ℕ) → World C → List Event → List Event
taken_events sys M bound w [] = []
taken_events sys M bound w (e ∷ es) = taken_on w e (step sys M bound w e) (λ v. taken_events sys M bound v es)

abbrev pub effects_on : {C : Type 0} → World C → Reaction C → (World C → List Effect) → List Effect
effects_on w Nothing rest = effect.Nothing ∷ rest w
effects_on w (Did d) rest = effect.Done ∷ rest d.world
effects_on w (Kept p v) rest = effect.Kept ∷ rest v

-- what a run answers to each of the events
abbrev pub effects : {C : Type 0} → SystemTables → Meaning C → (bound : ℕ) → World C → List Event → List Effect
effects sys M bound w [] = []
effects sys M bound w (e ∷ es) = effects_on w (step sys M bound w e) (λ v. effects sys M bound v es)

abbrev pub completed_by : {C : Type 0} → List Line → Option (Trace C) → Option (Trace C)
completed_by ls None = None
completed_by ls (Some r) = Some (after_first ls r)

abbrev pub completed_on : {C : Type 0} → Reaction C → (World C → Option (Trace C)) → Option (Trace C)
completed_on Nothing rest = None
completed_on (Did d) rest = completed_by d.lines (rest d.world)
completed_on (Kept p v) rest = None

-- a run in which every event is done, if it is one
abbrev pub complete_run : {C : Type 0} → SystemTables → Meaning C → (bound : ℕ) → World C → List Event
    → Option (Trace C)
complete_run sys M bound w [] = Some (record { world = w; events = [] })
complete_run sys M bound w (e ∷ es) = completed_on (step sys M bound w e) (λ v. complete_run sys M bound v es)

abbrev pub waiting_word : Bool → StateWord
waiting_word true = word.WaitingSuspended
waiting_word false = word.Waiting

abbrev pub ready_word : (suspended runs : Bool) → StateWord
ready_word true runs = word.Suspended
ready_word false true = word.Running
ready_word false false = word.Ready

-- the word for a task's state; a suspended task that still runs is SUSPENDED
abbrev pub state_word : Phase → (suspended runs : Bool) → StateWord
state_word Dormant suspended runs = word.Dormant
state_word Ready suspended runs = ready_word suspended runs
state_word (Waiting c) suspended runs = waiting_word suspended

-- whether the assigned processor of task t, which is x, runs it
abbrev pub is_run : KernelState → ℕ → TaskBlock → Bool
is_run s t x = is_same_task (processor_at s x.processor).run (Some t)

abbrev pub shown : KernelState → ℕ → TaskBlock → TaskState
shown s t x =
    record { word = state_word x.phase x.suspended (is_run s t x); processor = x.processor; priority = x.priority }

-- what is shown of task t
abbrev pub task_state : KernelState → ℕ → TaskState
task_state s t = shown s t (task_at s.tasks t)

-- What a session tells of its kernel, and what it leaves.
use Rattle.std.specs.Prelude.{ℕ, ◌≡◌, ◌-◌, List, [], ◌∷◌, Bool, false, true, Ok, Option, length, replicate, take}
use Rattle.fmp_base.specs.declared.events.Event.{Event}
use Rattle.fmp_base.specs.Runs.{task_state}
use Rattle.fmp_base.specs.States.{task_at}
use Rattle.fmp_files.specs.Deeds.{Begins, Deed, Does, wrote}
use Rattle.fmp_files.specs.Outside.{Files}
use Rattle.fmp_frames.specs.Frames.{each}
use Rattle.fmp_instructions.specs.declared.instructions.MachineContext.{MachineContext}
use Rattle.fmp_instructions.specs.Instructions.{BodyTables}
use Rattle.fmp_kernel.specs.KernelViews.{KernelView}
use Rattle.fmp_frames.specs.declared.call_positions.CallPosition.{CallPosition}
use Rattle.fmp_session.specs.declared.command.Command.{Command}
use Rattle.fmp_session.specs.declared.command.Command.TheVariants as command
use Rattle.fmp_session.specs.declared.session.Session.{Session}
use Rattle.fmp_session.specs.declared.session.TakenEvent.{TakenEvent}
use Rattle.fmp_session.specs.declared.session.TakenEvent.TheVariants as taken
use Rattle.fmp_session.specs.Sessions.{IsTakenAs, lines_now, records_now, with_event}
use Rattle.fmp_looking.specs.Traces.{states_text}
use Rattle.fmp_searching.specs.Claimed.{IsFile}
use Rattle.fmp_session.specs.Taking.{HasTaken}
use Rattle.fmp_trace.specs.Steps.{steps_of, steps_text}
use Rattle.fmp_view.specs.Apart.{IsApartFromTexts}
use Rattle.fmp_view.specs.declared.answering.Answer.{Answer}
use Rattle.fmp_view.specs.declared.answering.Answer.TheVariants as answer
use Rattle.fmp_view.specs.declared.answering.GivenCommand.{GivenCommand}
use Rattle.fmp_warnings.specs.declared.verdicts.FileNames.{FileNames}
use Rattle.fmp_warnings.specs.declared.verdicts.Form.{Form}
use Rattle.fmp_warnings.specs.declared.verdicts.Form.TheVariants as form

-- the lines of the last event, or the objects of JSON, with where its call stands if that is known
abbrev pub last_lines : Form → Option CallPosition → KernelView (List BodyTables) MachineContext → List ℕ
last_lines form.Text position k = lines_now k
last_lines form.Json position k = records_now position k

-- the states of the tasks of a kernel
abbrev pub states_text_of : Form → KernelView (List BodyTables) MachineContext → List ℕ
states_text_of f k =
    states_text f k.system (each (task_state k.world.state) (length k.system.tasks))
    (each (task_at k.world.state.tasks) (length k.system.tasks))

-- a line that fails leaves the events of the session as they were
abbrev pub Leaves : (before after : Session) → Answer → Type 0
Leaves before after (answer.Told text) = Unit {0}
Leaves before after (answer.Refused reason) = after.events.items ≡ before.events.items
Leaves before after (answer.NoFile failure) = after.events.items ≡ before.events.items

-- what is so where something is told
abbrev pub IfTold : Type 0 → Answer → Type 0
IfTold P (answer.Told text) = P
IfTold P (answer.Refused reason) = Unit {0}
IfTold P (answer.NoFile failure) = Unit {0}

-- the events of a steps text were taken
pub record HasTakenText (before : Session) (text : List ℕ) (after : Session) : Type 0 where
  pub events : List Event
  pub read : steps_of before.image.now.system.processors text ≡ Ok events
  pub taken : HasTaken before events after

-- those of the text of a file
pub record Loads (files : Files) (name : List ℕ) (before after : Session) : Type 0 where
  pub text : List ℕ
  pub is_text : IsFile files name text
  pub taken : HasTakenText before text after

-- some events were taken
pub record GoesOn (before after : Session) : Type 0 where
  pub events : List Event
  pub taken : HasTaken before events after

-- events without the last of them, this many
abbrev pub events_back : (count : ℕ) → List Event → List Event
events_back count es = take (length es - count) es

-- what a command that reaches nothing outside does to the events
abbrev pub Leads : (before : Session) → Command → (after : Session) → Type 0
Leads before (command.Take e times) after = HasTaken before (replicate times e) after
Leads before (command.Back count) after = after.events.items ≡ events_back count before.events.items
Leads before _ after = after.events.items ≡ before.events.items

-- what a command does to the events that is told of
abbrev pub DoesBy : Files → (before : Session) → Command → (argument : List ℕ) → (after : Session) → Type 0
DoesBy files before command.Load argument after = Loads files argument before after
DoesBy files before command.Until argument after = GoesOn before after
DoesBy files before c argument after = Leads before c after

abbrev pub Answers : Files → (before : Session) → GivenCommand → (after : Session) → Answer → Type 0
Answers files before given after = IfTold (DoesBy files before given.command given.argument.now after)

-- the kinds of answers
abbrev pub IsTold : Answer → Type 0
IsTold (answer.Told text) = Unit {0}
IsTold (answer.Refused reason) = ⊥
IsTold (answer.NoFile failure) = ⊥

abbrev pub IsRefused : Answer → Type 0
IsRefused (answer.Told text) = ⊥
IsRefused (answer.Refused reason) = Unit {0}
IsRefused (answer.NoFile failure) = ⊥

abbrev pub IsNoFile : Answer → Type 0
IsNoFile (answer.Told text) = ⊥
IsNoFile (answer.Refused reason) = ⊥
IsNoFile (answer.NoFile failure) = Unit {0}

-- the events of a session were written to a file as steps, which is neither of the two texts; a line that is refused
-- writes nothing, and a file that could not be written has at most a beginning of the steps
abbrev pub Saves : Files → FileNames → (name : List ℕ) → List Event → (before after : Option (List Deed)) → Answer
    → Type 0
Saves files texts name es before after (answer.Told text) =
    IsApartFromTexts files texts name × Does before (wrote name (steps_text es) ∷ []) after
Saves files texts name es before after (answer.Refused reason) = Does before [] after
Saves files texts name es before after (answer.NoFile failure) =
    IsApartFromTexts files texts name × Begins (wrote name) (steps_text es) before after

-- an event that was taken did something
abbrev pub is_deed : TakenEvent → Bool
is_deed taken.Done = true
is_deed taken.Kept = true
is_deed taken.Nothing = false
is_deed taken.Full = false

-- a session took an event, which did something or not
pub record Takes (before : Session) (e : Event) (did : Bool) (after : Session) : Type 0 where
  pub taken : TakenEvent
  pub exact : IsTakenAs before e taken
  pub events : after.events.items ≡ with_event taken e before.events.items
  pub is : did ≡ is_deed taken

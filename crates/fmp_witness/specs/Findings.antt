-- What is found in the schedules of an image.
use Rattle.std.specs.Prelude.{ℕ, ◌≡◌, ◌⊎◌, List, [], ◌∷◌, ◌++◌, Some, true, slice_get}
use Rattle.fmp_base.specs.declared.events.Event.{Event}
use Rattle.fmp_base.specs.declared.events.Line.{Line}
use Rattle.fmp_base.specs.Meanings.{Meaning, World}
use Rattle.fmp_base.specs.Steps.{Done, Reaction, Nothing, Did, Kept, step}
use Rattle.fmp_drive.specs.Driving.{HasTaken, reaction as done_by}
use Rattle.fmp_base.specs.Systems.{SystemTables}
use Rattle.fmp_image_bytes.specs.Images.{ImageTables}
use Rattle.fmp_instructions.specs.Machine.{code_meaning}
use Rattle.fmp_instructions.specs.declared.instructions.MachineContext.{MachineContext}
use Rattle.fmp_replay.specs.Replays.{IsLegal, done_count, reaction, replay}
use Rattle.fmp_witness.specs.declared.finding.Finding.{Finding}
use Rattle.fmp_witness.specs.declared.finding.Left.{Left}
use Rattle.fmp_witness.specs.declared.finding.FindingKind.{FindingKind}
use Rattle.fmp_witness.specs.declared.finding.FindingKind.TheVariants as kind
use Rattle.fmp_witness.specs.declared.finding.SentenceBreach.{SentenceBreach}
use Rattle.fmp_question.specs.declared.question.Question.{Question}
use Rattle.fmp_instructions.specs.Instructions.{BodyTables}
use Rattle.fmp_kernel.specs.KernelViews.{KernelView}
use Rattle.fmp_schedules.specs.declared.monitor.Breach.{Breach}
use Rattle.fmp_schedules.specs.declared.monitor.Monitor.{Monitor}
use Rattle.fmp_witness.specs.Asked.{Asked, meaning_of}
use Rattle.fmp_witness.specs.Followed.{IsFollowed}
use Rattle.fmp_schedules.specs.Deadlocks.{IsDeadlock, may_interrupt}
use Rattle.fmp_schedules.specs.Schedules.{lines_after, reached}
use Rattle.fmp_schedules.specs.Monitors.{IsBreach, is_broken_in, monitor_after, monitor_along}
use Rattle.fmp_question.specs.Endless.{IsEndlessOn}
use Rattle.fmp_question.specs.Sites.{is_bad}
use Rattle.fmp_question.specs.Rules.{rules_of}
use Rattle.fmp_schedules.specs.Stuck.{NeverGoesOn}

-- the line at a place tells something that must never happen, where the event left this world
pub record HasForbidden (sys : SystemTables) (q : Question) (w : World MachineContext) (lines : List Line) (place : ℕ) :
    Type 0 where
  pub line : Line
  pub there : slice_get lines place ≡ Some line
  pub forbidden : is_bad sys q w line ≡ true

-- the last of these events is done, and this is what it did
pub record EndsWith (sys : SystemTables) (M : Meaning MachineContext) (n : ℕ) (es : List Event)
    (d : Done MachineContext) : Type 0 where
  pub before : List Event
  pub last : Event
  pub parts : es ≡ before ++ last ∷ []
  pub did : step sys M n (reached sys M n before) last ≡ Did d

-- this was left by the last of these events, which is done; or by setup, where there is no event
abbrev pub IsOfLast : SystemTables → Meaning MachineContext → ℕ → List Event → Done MachineContext → Type 0
IsOfLast sys M n es d = (es ≡ []) ⊎ EndsWith sys M n es d

-- the last of these events tells something that must never happen, by the line at a place; or setup does, where there
-- is no event
pub record TellsForbidden (sys : SystemTables) (M : Meaning MachineContext) (n : ℕ) (q : Question) (es : List Event)
    (d : Done MachineContext) (place : ℕ) : Type 0 where
  pub of_last : IsOfLast sys M n es d
  pub forbidden : HasForbidden sys q d.world d.lines place

-- the last of these events is done, and one of its lines breaks a sentence
pub record IsBreached (sys : SystemTables) (M : Meaning MachineContext) (n : ℕ) (q : Question) (es : List Event)
    (t : SentenceBreach) : Type 0 where
  pub monitor : Monitor
  pub there : slice_get q.monitors.items t.monitor ≡ Some monitor
  pub before : List Event
  pub last : Event
  pub parts : es ≡ before ++ last ∷ []
  pub done : Done MachineContext
  pub did : step sys M n (reached sys M n before) last ≡ Did done
  pub broken : IsBreach (monitor_along monitor (lines_after sys M n before)) done.lines t.breach

-- a world's state breaks the sentence at a place of these
pub record HasBroken (monitors : List Monitor) (w : World MachineContext) (place : ℕ) : Type 0 where
  pub monitor : Monitor
  pub there : slice_get monitors place ≡ Some monitor
  pub broken : is_broken_in monitor w.state ≡ true

-- this is seen in what events have left
abbrev pub IsSeen : SystemTables → Meaning MachineContext → ℕ → Question → List Event → Done MachineContext
    → FindingKind
    → Type 0
IsSeen sys M n q es d (kind.Line place) = TellsForbidden sys M n q es d place
IsSeen sys M n q es d kind.Deadlock = IsDeadlock sys M n d.world q.rest.items (may_interrupt q.interrupts es)
IsSeen sys M n q es d (kind.Endless p) = IsEndlessOn sys M d.world p
IsSeen sys M n q es d (kind.Breach t) = IsBreached sys M n q es t
IsSeen sys M n q es d (kind.State place) = HasBroken q.monitors.items d.world place
IsSeen sys M n q es d (kind.Stuck t) = NeverGoesOn (rules_of q) sys M n es t

-- this is seen after events, by what is asked
abbrev pub IsSeenAfter : Asked → List Event → FindingKind → Type 0
IsSeenAfter asked es seen =
    IsSeen asked.image.system (meaning_of asked) asked.bound asked.question es (replay asked.image asked.bound es) seen

-- each of these events does something at its place, and this is seen after them
pub record IsSo (asked : Asked) (es : List Event) (seen : FindingKind) : Type 0 where
  pub legal : IsLegal asked.image asked.bound es
  pub shown : IsSeenAfter asked es seen

-- a finding is so
abbrev pub IsFound : ImageTables → ℕ → Question → Finding → Type 0
IsFound i n q f = IsSo (record { image = i; bound = n; question = q }) f.steps.items f.kind

-- a kernel has taken these events, and the last one is done, if there is one
pub record HasDoneLast (i : ImageTables) (n : ℕ) (es : List Event) (k : KernelView (List BodyTables) MachineContext) :
    Type 0 where
  pub followed : IsFollowed i n es k
  pub of_last : IsOfLast i.system (code_meaning i.code) n es (replay i n es)

-- after these events the line at a place tells something that must never happen
abbrev pub HasForbiddenAfter : Asked → List Event → (place : ℕ) → Type 0
HasForbiddenAfter asked es place =
    let d = replay asked.image asked.bound es in
    HasForbidden asked.image.system asked.question d.world d.lines place

-- what legal events have left: the lines of the last one that was done, with its number in the trace
pub record IsLeft (i : ImageTables) (n : ℕ) (es : List Event) (left : Left) : Type 0 where
  pub legal : IsLegal i n es
  pub number : left.number ≡ done_count i n es
  pub lines : left.lines.items ≡ (replay i n es).lines

-- a kernel has taken these events, each of which does something, and a monitor has come to this
pub record HasMonitor (i : ImageTables) (n : ℕ) (before : Monitor) (es : List Event)
    (k : KernelView (List BodyTables) MachineContext) (after : Monitor) : Type 0 where
  pub followed : IsFollowed i n es k
  pub monitor : after ≡ monitor_along before (lines_after i.system (code_meaning i.code) n es)

-- a monitor after what an event does
abbrev pub monitor_by : {C : Type 0} → Monitor → Reaction C → Monitor
monitor_by s Nothing = s
monitor_by s (Did d) = monitor_after s d.lines
monitor_by s (Kept p w) = s

-- a kernel has taken an event, and a monitor has come to this
pub record IsMonitorOn (before after : KernelView (List BodyTables) MachineContext) (s : Monitor) (e : Event)
    (r : Monitor) : Type 0 where
  pub taken : HasTaken (λ bodies. code_meaning bodies) before after e
  pub monitor : r ≡ monitor_by s (done_by (λ bodies. code_meaning bodies) before e)

-- an event is done after others, and one of its lines breaks a sentence
pub record IsBreachAfter (i : ImageTables) (n : ℕ) (s : Monitor) (before : List Event) (last : Event) (m : Breach) :
    Type 0 where
  pub legal : IsLegal i n (before ++ last ∷ [])
  pub done : Done MachineContext
  pub did : reaction i n before last ≡ Did done
  pub broken : IsBreach (monitor_along s (lines_after i.system (code_meaning i.code) n before)) done.lines m

-- What the exports answer of the system that a handle holds.
use Rattle.std.specs.Prelude.{◌≡◌, ℕ, ℤ, pos, ◌+◌, ◌-◌, List, [], ◌∷◌, length, IfSome, IsSome, if◌then◌else◌, nat_eq}
use Rattle.std.specs.Prelude.{nat_lt, Option, Some, None, Result, Ok, Err}
use Rattle.fmp_base.specs.declared.bodies.Fault.{Fault}
use Rattle.fmp_base.specs.declared.codes.Er.{Er}
use Rattle.fmp_base.specs.declared.events.Effect.{Effect}
use Rattle.fmp_base.specs.declared.events.Effect.TheVariants as effect
use Rattle.fmp_base.specs.declared.events.Line.{Line}
use Rattle.fmp_base.specs.declared.events.StateWord.{StateWord}
use Rattle.fmp_base.specs.declared.events.StateWord.TheVariants as word
use Rattle.fmp_base.specs.declared.events.TaskState.{TaskState}
use Rattle.fmp_base.specs.Codes.{code_of}
use Rattle.fmp_base.specs.Runs.{task_state}
use Rattle.fmp_cfgparse.specs.Configurations.{IsRead}
use Rattle.fmp_lex.specs.declared.fault.BuildFault.{BuildFault}
use Rattle.fmp_lex.specs.declared.fault.BuildFault.TheVariants as build
use Rattle.fmp_lex.specs.declared.fault.FaultKind.{FaultKind}
use Rattle.fmp_lex.specs.declared.fault.FaultKind.TheVariants as kind
use Rattle.fmp_lex.specs.declared.position.TokenPosition.{TokenPosition}
use Rattle.fmp_foreign.specs.declared.requests.Refusal.{Refusal}
use Rattle.fmp_foreign.specs.declared.requests.Refusal.TheVariants as refusal
use Rattle.fmp_foreign.specs.Hosting.{ForeignKernel, IsNew, after, answer, refused, restarted}
use Rattle.fmp_foreign.specs.Looking.{acting_on}
use Rattle.fmp_outside.specs.declared.given.Given.{Given}
use Rattle.fmp_foreign.specs.declared.hosted.HostedSystem.{HostedSystem}
use Rattle.fmp_checked.specs.declared.following.Objection.{Objection}
use Rattle.fmp_checked.specs.declared.following.Objection.TheVariants as objection
use Rattle.fmp_instructions.specs.Machine.{code_meaning}
use Rattle.fmp_kernel.specs.Restarts.{counts_restarted}
use Rattle.fmp_foreign.specs.Following.{HasFollowed}
use Rattle.fmp_checked.specs.Checking.{InStep, IsBegun, IsChecked, TextKernel, hosted_after}
use Rattle.fmp_image_bytes.specs.Images.{ImageTables, image_at}
use Rattle.fmp_image_bytes.specs.declared.fault.ImageFault.{ImageFault}
use Rattle.fmp_image_bytes.specs.declared.fault.ImageFault.TheVariants as image_fault
use Rattle.fmp_image_bytes.specs.declared.fault.LoadFault.{LoadFault}
use Rattle.fmp_image_bytes.specs.declared.fault.LoadFault.TheVariants as load_fault
use Rattle.fmp_image_bytes.specs.Fields.{Fails}
use Rattle.fmp_c.specs.declared.looks.FmpCounts.{FmpCounts}
use Rattle.fmp_c.specs.declared.states.FmpState.{FmpState}
use Rattle.fmp_c.specs.declared.events.TheConstants.{FAULTS}
use Rattle.fmp_c.specs.Names.{item}
use Rattle.fmp_c.specs.declared.machine.Machine.{Machine}
use Rattle.fmp_c.specs.declared.records.FmpOutcome.{FmpOutcome}
use Rattle.fmp_c.specs.declared.records.FmpRefusal.{FmpRefusal}
use Rattle.fmp_c.specs.Records.{acting_row, answer_number, changes}

-- the number of a kind of fault, and the code of a static API
abbrev pub kind_number : FaultKind → ℕ
kind_number kind.Syntax = 1
kind_number kind.TwiceNamed = 2
kind_number kind.UnknownName = 3
kind_number (kind.Api code) = 4
kind_number kind.Limit = 5
kind_number kind.StackTooSmall = 6
kind_number kind.WrongEntryKind = 7
kind_number kind.Shape = 9

abbrev pub kind_code : FaultKind → ℤ
kind_code (kind.Api code) = code_of code
kind_code k = pos 0

-- the record of a fault
abbrev pub refusal_of : TokenPosition → FaultKind → FmpRefusal
refusal_of place why = record { line = place.line; kind = kind_number why; code = kind_code why }

-- what C is told where there is no system: the fault of the text, or that memory ran out
abbrev pub IsNoSystem : BuildFault → (old new : FmpRefusal) → (number : ℕ) → Type 0
IsNoSystem build.Memory old new number = (new ≡ old) × (number ≡ 3)
IsNoSystem (build.At f place why) old new number = (new ≡ refusal_of place why) × (number ≡ 1)

-- the system of a text, after setup, before the first event
abbrev pub IsFirst : List ℕ → Machine → Type 0
IsFirst text m = IsNew text m.hosted × (m.text ≡ None) × (m.last ≡ None)

-- a blank handle holds the new system of the text, or stays blank, for a fault of the text or because memory ran out
abbrev pub IsMade : List ℕ → Option Machine → (old new : FmpRefusal) → (number : ℕ) → Type 0
IsMade text (Some m) old new number = IsFirst text m × (new ≡ old) × (number ≡ 0)
IsMade text None old new number = (fault : BuildFault) × IsRead text (Err fault) × IsNoSystem fault old new number

-- the number of a fault of an image
abbrev pub image_number : ImageFault → ℕ
image_number image_fault.Short = 1
image_number image_fault.Magic = 2
image_number image_fault.Version = 3
image_number image_fault.Table = 4
image_number image_fault.Code = 5
image_number image_fault.Trailing = 6

-- what C is told where there is no image: the fault of the bytes, or that memory ran out
abbrev pub IsToldOfImage : LoadFault → (old new : FmpRefusal) → (number : ℕ) → Type 0
IsToldOfImage load_fault.Memory old new number = (new ≡ old) × (number ≡ 3)
IsToldOfImage (load_fault.Image f) old new number =
    (new ≡ record { line = 0; kind = image_number f; code = pos 0 }) × (number ≡ 1)

-- a hosted system with its text, before the first event
pub record IsCheckedMachine (h : HostedSystem) (t : TextKernel) (m : Machine) : Type 0 where
  pub hosted : m.hosted ≡ h
  pub text : m.text ≡ Some t
  pub step : InStep h.kernel t
  pub last : m.last ≡ None

-- that of an image, after setup
pub record IsFirstOf (i : ImageTables) (bound : ℕ) (m : Machine) : Type 0 where
  pub hosted : HostedSystem
  pub text : TextKernel
  pub begun : IsBegun i bound hosted text
  pub machine : IsCheckedMachine hosted text m

-- that of an image that the bytes spell
pub record IsFirstChecked (bytes : List ℕ) (bound : ℕ) (m : Machine) : Type 0 where
  pub image : ImageTables
  pub spelled : image_at bytes ≡ Ok image
  pub first : IsFirstOf image bound m

-- a blank handle holds the new system of the image, or stays blank, for a fault of the bytes or because memory ran out
abbrev pub IsLoaded : (bytes : List ℕ) → (bound : ℕ) → Option Machine → (old new : FmpRefusal) → (number : ℕ) → Type 0
IsLoaded bytes bound (Some m) old new number = IsFirstChecked bytes bound m × (new ≡ old) × (number ≡ 0)
IsLoaded bytes bound None old new number =
    (fault : LoadFault) × Fails fault (image_at bytes) × IsToldOfImage fault old new number

-- a blank handle stays blank, since the bound is out of range
abbrev pub IsNoBound : Option Machine → (old new : FmpRefusal) → (number : ℕ) → Type 0
IsNoBound made old new number = (made ≡ None) × (new ≡ old) × (number ≡ 5)

-- what the lines of an event say has changed, if it was done
abbrev pub changes_after : Result Effect Refusal → List Line → ℕ
changes_after (Ok effect.Done) lines = changes lines
changes_after (Ok effect.Nothing) lines = 0
changes_after (Ok effect.Kept) lines = 0
changes_after (Err why) lines = 0

-- what C is told by the kernel after an event that was given for the processor of this number
abbrev pub outcome_of : ForeignKernel → ℕ → Result Effect Refusal → FmpOutcome
outcome_of k p a = record { acting = acting_row (acting_on k p); changes = changes_after a k.lines }

-- what came with the last event that was done, after one more came
abbrev pub last_by : Result Effect Refusal → (given : Given) → (before : Option Given) → Option Given
last_by (Ok effect.Done) g before = Some g
last_by (Ok effect.Nothing) g before = before
last_by (Ok effect.Kept) g before = before
last_by (Err why) g before = before

-- the machine after what came
abbrev pub machine_after : Machine → Result Given Refusal → Machine
machine_after m (Err why) = m
machine_after m (Ok g) =
    record m { hosted = after m.hosted (Ok g); last = last_by (answer m.hosted.kernel (Ok g)) g m.last }

-- what came was taken or refused, as the case tables say, and C was told
abbrev pub IsTakenAny : (old : Machine) → (g : Result Given Refusal) → (p : ℕ) → (new : Option Machine)
    → (out : FmpOutcome) → (number : ℕ) → Type 0
IsTakenAny old g p new out number =
    (new ≡ Some (machine_after old g))
    × (out ≡ outcome_of (machine_after old g).hosted.kernel p (answer old.hosted.kernel g))
    × (number ≡ answer_number (answer old.hosted.kernel g))

-- what is told to C where a text has judged: what differs from the text, or comes while it is within a stretch, does
-- nothing
abbrev pub answered : Result Effect Objection → Result Effect Refusal
answered (Ok e) = Ok e
answered (Err (objection.Refused why)) = Err why
answered (Err objection.Full) = Err refusal.Full
answered (Err objection.Differs) = Ok effect.Nothing
answered (Err objection.Long) = Ok effect.Nothing

abbrev pub checked_number : Result Effect Objection → ℕ
checked_number (Ok e) = answer_number (Ok e)
checked_number (Err (objection.Refused why)) = answer_number (Err why)
checked_number (Err objection.Full) = 3
checked_number (Err objection.Differs) = 10
checked_number (Err objection.Long) = 11

-- the machine after what came, where its text, now at u, has answered so
abbrev pub machine_checked : Machine → Given → (u : TextKernel) → Result Effect Objection → Machine
machine_checked m g u a =
    record m { hosted = hosted_after m.hosted g a; text = Some u; last = last_by (answered a) g m.last }

-- what came was taken where the text t does it next, and else answered, and C was told
pub record IsTakenChecked (t : TextKernel) (old : Machine) (g : Given) (p : ℕ) (new : Option Machine) (out : FmpOutcome)
    (number : ℕ) : Type 0 where
  pub text : TextKernel
  pub answer : Result Effect Objection
  pub checked : IsChecked (refused old.hosted.kernel g) old.hosted.kernel t g text answer
  pub step : InStep old.hosted.kernel t → InStep (hosted_after old.hosted g answer).kernel text
  pub machine : new ≡ Some (machine_checked old g text answer)
  pub outcome : out ≡ outcome_of (hosted_after old.hosted g answer).kernel p (answered answer)
  pub number_is : number ≡ checked_number answer

-- the text t has done what came
pub record HasAgreed (t : TextKernel) (old : Machine) (g : Given) (new : Machine) : Type 0 where
  pub text : TextKernel
  pub free : refused old.hosted.kernel g ≡ None
  pub followed : HasFollowed code_meaning t (g ∷ []) text
  pub machine : new ≡ record old { text = Some text }

-- what came is not done, for a reason: it is refused, or the text t does not do it next
pub record HasObjected (t : TextKernel) (old : Machine) (g : Given) (new : Machine) (why : Objection) : Type 0 where
  pub text : TextKernel
  pub checked : IsChecked (refused old.hosted.kernel g) old.hosted.kernel t g text (Err why)
  pub step : InStep old.hosted.kernel t → InStep old.hosted.kernel text
  pub machine : new ≡ record old { text = Some text }

-- a machine has asked its text, if it has one
abbrev pub IsConsulted : Option TextKernel → (old : Machine) → Given → (new : Machine) → Option Objection → Type 0
IsConsulted None old g new None = new ≡ old
IsConsulted None old g new (Some why) = ⊥
IsConsulted (Some t) old g new None = HasAgreed t old g new
IsConsulted (Some t) old g new (Some why) = HasObjected t old g new why

-- where there is a text, it is taken if the text does it next
abbrev pub IsTakenBy : Option TextKernel → (old : Machine) → (g : Given) → (p : ℕ) → (new : Option Machine)
    → (out : FmpOutcome) → (number : ℕ) → Type 0
IsTakenBy None old g p new out number = IsTakenAny old (Ok g) p new out number
IsTakenBy (Some t) old g p new out number = IsTakenChecked t old g p new out number

-- by the machine that a handle holds; what is no call is refused
abbrev pub IsTaken : (old : Machine) → (g : Result Given Refusal) → (p : ℕ) → (new : Option Machine)
    → (out : FmpOutcome) → (number : ℕ) → Type 0
IsTaken old (Ok g) p new out number = IsTakenBy old.text old g p new out number
IsTaken old (Err why) p new out number = IsTakenAny old (Err why) p new out number

-- a text with counts that begin again
abbrev pub text_restarted : Option TextKernel → Option TextKernel
text_restarted None = None
text_restarted (Some t) = Some (counts_restarted t)

-- a machine with counts that begin again, those of its system and those of its text
abbrev pub machine_restarted : Machine → Machine
machine_restarted m = record m { hosted = restarted m.hosted; text = text_restarted m.text }

-- the fault of this number
abbrev pub fault_of : ℕ → Option Fault
fault_of n = item FAULTS n

-- the same system, where only the page differs
abbrev pub IsSameSystem : Option Machine → Option Machine → Type 0
IsSameSystem None new = new ≡ None
IsSameSystem (Some old) new =
    IfSome new (λ m. (m.hosted ≡ old.hosted) × (m.text ≡ old.text) × (m.last ≡ old.last)) × IsSome new

-- counts of a system and of its events
abbrev pub counts_of : HostedSystem → FmpCounts
counts_of h =
    record {
      processors = h.system.processors;
      done = h.kernel.done;
      taken = h.kernel.taken;
      lines = length h.kernel.lines;
    }

-- what is shown of a task
abbrev pub word_number : StateWord → ℕ
word_number word.Running = 1
word_number word.Ready = 2
word_number word.Waiting = 3
word_number word.Suspended = 4
word_number word.WaitingSuspended = 5
word_number word.Dormant = 6

abbrev pub state_row : TaskState → FmpState
state_row s = record { word = word_number s.word; processor = s.processor + 1; priority = s.priority }

abbrev pub no_state : FmpState
no_state = record { word = 0; processor = 0; priority = 0 }

-- of the task of this number
abbrev pub state_at : ForeignKernel → ℕ → FmpState
state_at k n =
    if nat_eq n 0
    then no_state
    else if nat_lt (n - 1) (length k.system.tasks) then state_row (task_state k.world.state (n - 1)) else no_state

-- What it is to drive a kernel: events, each of which is taken.
use Rattle.std.specs.Prelude.{ℕ, ◌≡◌, ◌+◌, ◌%◌, ◌≤◌, ◌<◌, ◌||◌, ◌⊎◌, Bool, true, false, List, [], ◌∷◌, Option, None}
use Rattle.std.specs.Prelude.{Some, length, max, ⊤}
use Rattle.std.specs.List.{AllByRecursion}
use Rattle.fmp_base.specs.declared.events.Event.{Event}
use Rattle.fmp_base.specs.declared.events.Event.TheVariants as event
use Rattle.fmp_base.specs.Meanings.{Meaning}
use Rattle.fmp_base.specs.Runs.{run, taken_events}
use Rattle.fmp_base.specs.Steps.{Reaction, Nothing, IsTaken, step}
use Rattle.fmp_kernel.specs.KernelViews.{KernelView, view_after}
use Rattle.fmp_trace.specs.StepsLaws.{IsStep}
use Rattle.fmp_drive.specs.declared.driving.DriveStop.{DriveStop}
use Rattle.fmp_drive.specs.declared.driving.DriveStop.TheVariants.{Quiet, Enough}
use Rattle.fmp_drive.specs.declared.plan.Plan.{Plan}
use Rattle.fmp_drive.specs.declared.plan.Wish.{Wish}
use Rattle.fmp_drive.specs.declared.plan.Wish.TheVariants as wish
use Rattle.fmp_drive.specs.declared.trying.EventSource.{EventSource}
use Rattle.fmp_drive.specs.declared.trying.EventSource.TheVariants.{Processor, Interrupt}
use Rattle.fmp_drive.specs.Plans.{can_tick, waits_after_all}

-- the event that a processor or an interrupt of this number makes
abbrev pub event_of : EventSource → ℕ → Event
event_of Processor number = event.Run number
event_of Interrupt number = event.Int number

-- what an event does to a kernel
abbrev pub reaction : {B C : Type 0} → (B → Meaning C) → KernelView B C → Event → Reaction C
reaction meaning k e = step k.system (meaning k.body) k.bound k.world e

-- the kernel has taken an event: it is done, or keeps a place
pub record HasTaken {B C : Type 0} (meaning : B → Meaning C) (before after : KernelView B C) (e : Event) : Type 0 where
  pub taken : IsTaken (reaction meaning before e)
  pub view : after ≡ view_after before (reaction meaning before e)

-- no event of a source by a number from the first one up to the end, which is left out, does anything
abbrev pub AllStand : {B C : Type 0} → (B → Meaning C) → KernelView B C → EventSource → (first end : ℕ) → Type 0
AllStand meaning k source first end =
    (number : ℕ) → first ≤ number → number < end → reaction meaning k (event_of source number) ≡ Nothing

-- the event is one of a source, by such a number, and no event by a smaller one from the first one on does anything
pub record IsFirstFrom {B C : Type 0} (meaning : B → Meaning C) (k : KernelView B C) (source : EventSource)
    (first end : ℕ)
    (e : Event) : Type 0 where
  pub number : ℕ
  pub first_on : first ≤ number
  pub in_front : number < end
  pub event : e ≡ event_of source number
  pub others : AllStand meaning k source first number

-- the kernel has taken the first event of a source, by such a number, that does something; or none does
abbrev pub TakesFirst : {B C : Type 0} → (B → Meaning C) → (before after : KernelView B C) → EventSource
    → (first end : ℕ)
    → Option Event → Type 0
TakesFirst meaning before after source first end None = AllStand meaning before source first end × (after ≡ before)
TakesFirst meaning before after source first end (Some e) =
    HasTaken meaning before after e × IsFirstFrom meaning before source first end e

-- What is wished from outside of the tasks has happened: a tick, or the first interrupt that does something, from the
-- number wished on. Nothing is wished here of processors.
abbrev pub IsStirred : {B C : Type 0} → (B → Meaning C) → (before after : KernelView B C) → Wish → Option Event → Type 0
IsStirred meaning before after (wish.Run first) done = (done ≡ None) × (after ≡ before)
IsStirred meaning before after wish.Tick done = (done ≡ Some event.Tick) × HasTaken meaning before after event.Tick
IsStirred meaning before after (wish.Interrupt first) done =
    TakesFirst meaning before after Interrupt (max first 1) 33 done

-- the kernel has taken these events one after the other
pub record HasRun {B C : Type 0} (meaning : B → Meaning C) (before after : KernelView B C) (es : List Event) :
    Type 0 where
  pub all_taken : taken_events before.system (meaning before.body) before.bound before.world es ≡ es
  pub world : after.world ≡ (run before.system (meaning before.body) before.bound before.world es).world
  pub system : after.system ≡ before.system
  pub body : after.body ≡ before.body
  pub bound : after.bound ≡ before.bound
  pub done :
      after.done ≡ before.done + length (run before.system (meaning before.body) before.bound before.world es).events
  pub taken : after.taken ≡ before.taken + length es

-- Where a drive stands: the kernel, the processor that has its turn, and for each task whether the wait that it began
-- last ends by the clock.
pub record Course (B C : Type 0) : Type 0 where
  pub kernel : KernelView B C
  pub turn : ℕ
  pub ending : List Bool

-- a kernel is driven by a plan
abbrev pub course_of : {B C : Type 0} → KernelView B C → Plan → Course B C
course_of k plan = record { kernel = k; turn = max plan.turn 1; ending = plan.ending.items }

-- after a run it is the turn of the processor after this one
abbrev pub turn_after : (turn processors : ℕ) → Event → ℕ
turn_after turn processors (event.Run p) = p % processors + 1
turn_after turn processors e = turn

-- after an event
abbrev pub course_after : {B C : Type 0} → (B → Meaning C) → (processors : ℕ) → Course B C → Event → Course B C
course_after meaning processors c e =
    let after = view_after c.kernel (reaction meaning c.kernel e) in
    record {
      kernel = after;
      turn = turn_after c.turn processors e;
      ending = waits_after_all c.ending after.lines;
    }

-- and after these events
abbrev pub course_after_all : {B C : Type 0} → (B → Meaning C) → (processors : ℕ) → Course B C → List Event
    → Course B C
course_after_all meaning processors c [] = c
course_after_all meaning processors c (e ∷ es) =
    course_after_all meaning processors (course_after meaning processors c e) es

-- no processor can do anything
abbrev pub AreIdle : {B C : Type 0} → (B → Meaning C) → KernelView B C → (processors : ℕ) → Type 0
AreIdle meaning k processors = AllStand meaning k Processor 1 (processors + 1)

-- the event is the run of the first processor that can do something, from this one on and then from 1 on
abbrev pub IsFirstInTurn : {B C : Type 0} → (B → Meaning C) → KernelView B C → (turn processors : ℕ) → Event → Type 0
IsFirstInTurn meaning k turn processors e =
    IsFirstFrom meaning k Processor turn (processors + 1) e
    ⊎ (AllStand meaning k Processor turn (processors + 1) × IsFirstFrom meaning k Processor 1 (processors + 1) e)

-- What comes next without a seed: the first processor in turn runs. Where none can do anything, the clock advances, if
-- it can change something.
abbrev pub IsNext : {B C : Type 0} → (B → Meaning C) → (processors tasks : ℕ) → Course B C → Event → Type 0
IsNext meaning processors tasks c e =
    IsFirstInTurn meaning c.kernel c.turn processors e
    ⊎ ((e ≡ event.Tick)
    × AreIdle meaning c.kernel processors
    × (can_tick c.ending c.kernel.world.state tasks ≡ true))

-- each of these events is the next
abbrev pub AreInTurn : {B C : Type 0} → (B → Meaning C) → (processors tasks : ℕ) → Course B C → List Event → Type 0
AreInTurn meaning processors tasks c [] = ⊤
AreInTurn meaning processors tasks c (e ∷ es) =
    IsNext meaning processors tasks c e × AreInTurn meaning processors tasks (course_after meaning processors c e) es

-- No processor can do anything, the clock changes nothing, and no interrupt comes at random.
abbrev pub IsQuiet : {B C : Type 0} → (B → Meaning C) → (processors tasks : ℕ) → (stirred : Bool) → Course B C → Type 0
IsQuiet meaning processors tasks stirred c =
    AreIdle meaning c.kernel processors × ((stirred || can_tick c.ending c.kernel.world.state tasks) ≡ false)

-- why a drive has stopped: all is quiet, or the number of events is taken
abbrev pub IsStop : {B C : Type 0} → (B → Meaning C) → (processors tasks most : ℕ) → (stirred : Bool) → Course B C
    → List Event → DriveStop → Type 0
IsStop meaning processors tasks most stirred c es Quiet = IsQuiet meaning processors tasks stirred c
IsStop meaning processors tasks most stirred c es Enough = length es ≡ most

-- The kernel was driven by a plan: it has taken these events, each of which a steps text can hold, and then stopped.
-- Without a seed each was the next.
pub record IsDriven {B C : Type 0} (meaning : B → Meaning C) (before after : KernelView B C) (plan : Plan)
    (processors tasks most : ℕ) (es : List Event) (stop : DriveStop) : Type 0 where
  pub ran : HasRun meaning before after es
  pub steps : AllByRecursion (IsStep processors) es
  pub few : length es ≤ most
  pub kernel : after ≡ (course_after_all meaning processors (course_of before plan) es).kernel
  pub turns : plan.random ≡ None → plan.stirred ≡ false
      → AreInTurn meaning processors tasks (course_of before plan) es
  pub stopped : IsStop meaning processors tasks most plan.stirred
      (course_after_all meaning processors (course_of before plan) es) es stop

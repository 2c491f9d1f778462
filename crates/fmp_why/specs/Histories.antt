-- Who took what and gave it back, and since when tasks stand where they do, as the lines of a trace tell it.
use Rattle.std.specs.Prelude.{ℕ, ◌+◌, zero, suc, ℤ, pos, negsuc, List, [], ◌∷◌, length, Option, Some, None, Bool, true}
use Rattle.std.specs.Prelude.{false, ◌&&◌, if◌then◌else◌, nat_eq, nat_lt}
use Rattle.fmp_base.specs.declared.calls.Call.{Call}
use Rattle.fmp_base.specs.declared.calls.Reply.{Reply}
use Rattle.fmp_base.specs.declared.catalogue.Action.{Action}
use Rattle.fmp_base.specs.declared.catalogue.Action.TheVariants as action
use Rattle.fmp_base.specs.declared.catalogue.ObjectKind.{ObjectKind}
use Rattle.fmp_base.specs.declared.catalogue.ObjectKind.TheVariants as kind
use Rattle.fmp_base.specs.declared.catalogue.Parameter.{Parameter}
use Rattle.fmp_base.specs.declared.codes.Er.{Er}
use Rattle.fmp_base.specs.declared.codes.Er.TheVariants as er
use Rattle.fmp_base.specs.declared.events.Line.{Line}
use Rattle.fmp_base.specs.declared.events.Line.TheVariants as line
use Rattle.fmp_base.specs.declared.services.Service.{Service}
use Rattle.fmp_base.specs.declared.services.Service.TheVariants as service
use Rattle.fmp_base.specs.declared.states.Caller.{Caller}
use Rattle.fmp_base.specs.declared.states.Caller.TheVariants as caller
use Rattle.fmp_base.specs.declared.systems.SemaphoreConfig.{SemaphoreConfig}
use Rattle.fmp_base.specs.Services.{action as action_of, argument, arguments_of, object_kind, parameters, service_of}
use Rattle.fmp_base.specs.Systems.{SystemTables}
use Rattle.fmp_why.specs.declared.history.ObjectAct.{ObjectAct}
use Rattle.fmp_why.specs.declared.history.ObjectDeed.{ObjectDeed}
use Rattle.fmp_why.specs.declared.history.TaskPart.{TaskPart}
use Rattle.fmp_why.specs.declared.history.ObjectTrail.{ObjectTrail}
use Rattle.fmp_why.specs.declared.history.Way.{Way}
use Rattle.fmp_why.specs.declared.history.Way.TheVariants as way
use Rattle.fmp_why.specs.Obstacles.{is_task}

-- what a trace has told: each line with the number of its event, the newest first
abbrev pub Told : Type 0
Told = List (ℕ × Line)

-- the lines of an event are told, one after another
abbrev pub told_with : List Line → (event : ℕ) → Told → Told
told_with [] event told = told
told_with (x ∷ xs) event told = told_with xs event ((event, x) ∷ told)

-- the task that an actor is, if it is one
abbrev pub task_of : Caller → Option ℕ
task_of (caller.Task t) = Some t
task_of (caller.Handler h) = None

-- the task that has a part in a line: it calls, is released or starts
abbrev pub part_in : Line → Option ℕ
part_in (line.Call p who c reply) = task_of who
part_in (line.Gets p t reply) = Some t
part_in (line.Starts p t) = Some t
part_in _ = None

-- the call with which a task waits from a line on: its own that has no reply
abbrev pub waits_from : Line → Option Call
waits_from (line.Call p who c None) = Some c
waits_from _ = None

-- what was told of task t last: the event in which it had a part, and the call with which it waits since, if it does
abbrev pub part_of : ℕ → Told → TaskPart
part_of t [] = record { event = 0; waits = None }
part_of t (x ∷ told) =
    if is_task t (part_in x.1) then record { event = x.0; waits = waits_from x.1 } else part_of t told

-- the same, if the system has such a task
abbrev pub part_told : SystemTables → Told → ℕ → Option TaskPart
part_told sys told t = if nat_lt t (length sys.tasks) then Some (part_of t told) else None

abbrev pub waits_of : Option TaskPart → Option Call
waits_of None = None
waits_of (Some x) = x.waits

-- a reply is E_OK
abbrev pub is_code_ok : Er → Bool
is_code_ok er.Ok = true
is_code_ok _ = false

abbrev pub is_done : Reply → Bool
is_done reply = is_code_ok reply.code

-- the call from which a task is released, if it did what it asks for
abbrev pub released_with : (done : Bool) → (task : ℕ) → Option Call → Option (Caller × Call)
released_with true t (Some c) = Some (caller.Task t, c)
released_with _ t _ = None

-- which actor did, by a line, what which call asks for: the caller, where the call was answered with E_OK at once; or
-- the task that was released with E_OK from the call with which it waited
abbrev pub done_in : (waits : ℕ → Option Call) → Line → Option (Caller × Call)
done_in waits (line.Call p who c (Some reply)) = if is_done reply then Some (who, c) else None
done_in waits (line.Gets p t reply) = released_with (is_done reply) t (waits t)
done_in waits _ = None

-- a call takes what its first argument names, or gives it
abbrev pub way_by : Option Action → Option Way
way_by (Some action.Takes) = Some way.Takes
way_by (Some action.Gives) = Some way.Gives
way_by _ = None

abbrev pub way_of : Service → Option Way
way_of service.LocSpn = Some way.Takes
way_of service.TrySpn = Some way.Takes
way_of service.UnlSpn = Some way.Gives
way_of s = way_by (action_of s)

-- the kind of the objects of which the first parameter names one
abbrev pub first_kind : List Parameter → Option ObjectKind
first_kind [] = None
first_kind (x ∷ xs) = object_kind x

-- the place that a number from 1 on names
abbrev pub place_of : ℤ → Option ℕ
place_of (pos zero) = None
place_of (pos (suc i)) = Some i
place_of (negsuc n) = None

abbrev pub act_by : Option Way → Option ObjectKind → Option ℕ → Option ObjectAct
act_by (Some w) (Some k) (Some i) = Some (record { way = w; kind = k; place = i })
act_by _ _ _ = None

-- which object a call takes or gives, if it does
abbrev pub act_of : Call → Option ObjectAct
act_of c =
    act_by (way_of (service_of c)) (first_kind (parameters (service_of c))) (place_of (argument (arguments_of c) 0))

abbrev pub is_same_kind : ObjectKind → ObjectKind → Bool
is_same_kind kind.Semaphore kind.Semaphore = true
is_same_kind kind.Flag kind.Flag = true
is_same_kind kind.DataQueue kind.DataQueue = true
is_same_kind kind.Mailbox kind.Mailbox = true
is_same_kind kind.SpinLock kind.SpinLock = true
is_same_kind _ _ = false

-- an act is on the object of kind k at place i
abbrev pub is_on : ObjectKind → ℕ → ObjectAct → Bool
is_on k i a = is_same_kind k a.kind && nat_eq i a.place

-- the holder after a task, or a handler, gave: it keeps what another gave
abbrev pub holder_after : (giver holder : Option ℕ) → Option ℕ
holder_after (Some t) (Some u) = if nat_eq t u then None else Some u
holder_after _ holder = holder

-- what was done to an object last, after this too
abbrev pub after_deed : Way → ObjectDeed → ObjectTrail → ObjectTrail
after_deed way.Takes d trail = record trail { taken = Some d; holder = task_of d.actor }
after_deed way.Gives d trail = record trail { given = Some d; holder = holder_after (task_of d.actor) trail.holder }

abbrev pub after_act : (k : ObjectKind) → (i : ℕ) → (event : ℕ) → Caller → Option ObjectAct → ObjectTrail → ObjectTrail
after_act k i event who None trail = trail
after_act k i event who (Some a) trail =
    if is_on k i a then after_deed a.way (record { actor = who; event = event }) trail else trail

abbrev pub after_done : (k : ObjectKind) → (i : ℕ) → (event : ℕ) → Option (Caller × Call) → ObjectTrail → ObjectTrail
after_done k i event None trail = trail
after_done k i event (Some done) trail = after_act k i event done.0 (act_of done.1) trail

-- nothing was done to an object
abbrev pub nothing : ObjectTrail
nothing = record { taken = None; given = None; holder = None }

-- what was told of the object of kind k at place i: who took it last, who gave it last, and the task that took it last,
-- unless that task has given it since
abbrev pub trail_of : SystemTables → ObjectKind → ℕ → Told → ObjectTrail
trail_of sys k i [] = nothing
trail_of sys k i (x ∷ told) =
    after_done k i x.0 (done_in (λ t. waits_of (part_told sys told t)) x.1) (trail_of sys k i told)

-- how many objects there are of a kind that is waited or spun for
abbrev pub count_of : SystemTables → ObjectKind → ℕ
count_of sys kind.Semaphore = length sys.semaphores
count_of sys kind.Flag = length sys.flags
count_of sys kind.DataQueue = length sys.data_queues
count_of sys kind.Mailbox = length sys.mailboxes
count_of sys kind.SpinLock = length sys.spin_locks
count_of sys _ = 0

-- the same, if the system has such an object
abbrev pub trail_told : SystemTables → Told → ObjectKind → ℕ → Option ObjectTrail
trail_told sys told k i = if nat_lt i (count_of sys k) then Some (trail_of sys k i told) else None

abbrev pub event_of : Option TaskPart → ℕ
event_of None = 0
event_of (Some x) = x.event

abbrev pub trail_or : Option ObjectTrail → ObjectTrail
trail_or None = nothing
trail_or (Some x) = x

-- the task that holds a semaphore: one that begins with no resource is held by none
abbrev pub holder_of : SemaphoreConfig → ObjectTrail → Option ℕ
holder_of config trail = if nat_lt 0 config.initial then trail.holder else None

-- the task that holds each of these semaphores, of which the first is at place i
abbrev pub holders_from : SystemTables → Told → (i : ℕ) → List SemaphoreConfig → List (Option ℕ)
holders_from sys told i [] = []
holders_from sys told i (x ∷ xs) =
    holder_of x (trail_of sys kind.Semaphore i told) ∷ holders_from sys told (i + 1) xs

abbrev pub holders_told : SystemTables → Told → List (Option ℕ)
holders_told sys told = holders_from sys told 0 sys.semaphores

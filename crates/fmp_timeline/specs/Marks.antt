-- What events do to tasks and handlers.
use Rattle.std.specs.Prelude.{ℕ, zero, ℤ, pos, List, [], ◌∷◌, Option, None, Some, Bool, true, false, ◌||◌, not, nat_eq}
use Rattle.std.specs.Prelude.{if◌then◌else◌, option_map, slice_get}
use Rattle.std.specs.List.{list_any}
use Rattle.std.specs.Option.{option_and_then}
use Rattle.fmp_base.specs.declared.calls.Call.{Call}
use Rattle.fmp_base.specs.declared.calls.Reply.{Reply}
use Rattle.fmp_base.specs.declared.catalogue.Action.{Action}
use Rattle.fmp_base.specs.declared.catalogue.Action.TheVariants as action
use Rattle.fmp_base.specs.declared.codes.Er.{Er}
use Rattle.fmp_base.specs.declared.codes.Er.TheVariants as er
use Rattle.fmp_base.specs.declared.events.Line.{Line}
use Rattle.fmp_base.specs.declared.events.Line.TheVariants as line
use Rattle.fmp_base.specs.declared.states.Caller.{Caller}
use Rattle.fmp_base.specs.declared.states.Caller.TheVariants as caller
use Rattle.fmp_base.specs.declared.states.Handler.TheVariants as handler
use Rattle.fmp_base.specs.Outcomes.{numbered}
use Rattle.fmp_base.specs.Services.{action as action_of, arguments_of, service_of}
use Rattle.fmp_timeline.specs.declared.marks.ActorLink.{ActorLink}
use Rattle.fmp_timeline.specs.declared.marks.Bond.{Bond}
use Rattle.fmp_timeline.specs.declared.marks.Bond.TheVariants as bond
use Rattle.fmp_timeline.specs.declared.marks.CallMade.{CallMade}
use Rattle.fmp_timeline.specs.declared.marks.Sign.{Sign}
use Rattle.fmp_timeline.specs.declared.marks.Sign.TheVariants as sign

abbrev pub is_ok : Er → Bool
is_ok er.Ok = true
is_ok _ = false

-- a call was answered at once, and with E_OK
abbrev pub is_accepted : Option Reply → Bool
is_accepted None = false
is_accepted (Some r) = is_ok r.code

-- a call waits, is refused, or ends a wait
abbrev pub is_named_first : CallMade → Bool
is_named_first m = m.releases || not (is_accepted m.reply)

-- a mark stands where the task was before the event
abbrev pub stands_before : Sign → Bool
stands_before sign.Polled = true
stands_before (sign.Refused code) = true
stands_before (sign.Faulted fault) = true
stands_before sign.Ended = true
stands_before sign.Terminated = true
stands_before _ = false

-- something went wrong
abbrev pub is_wrong : Sign → Bool
is_wrong (sign.Refused code) = true
is_wrong (sign.Faulted fault) = true
is_wrong _ = false

-- whose call, end or fault a line is
abbrev pub line_actor : Line → Option Caller
line_actor (line.Call p who c reply) = Some who
line_actor (line.End p who) = Some who
line_actor (line.Fault p who fault) = Some who
line_actor _ = None

-- whose call, end or fault an event is: its first line says so
abbrev pub actor_of : List Line → Option Caller
actor_of lines = option_and_then line_actor (slice_get lines 0)

-- the task that a number names, where 0 is the caller
abbrev pub task_named : ℤ → Caller → Option ℕ
task_named (pos zero) (caller.Task t) = Some t
task_named n who = numbered 256 n

-- what a call does to the task that it names
abbrev pub bond_by : Action → Option Bond
bond_by action.Activates = Some bond.Starts
bond_by action.WakesUp = Some bond.Releases
bond_by action.Migrates = Some bond.Migrates
bond_by action.Changes = Some bond.Changes
bond_by action.Gives = None
bond_by action.Takes = None

abbrev pub named_by : Call → Bond → Option (ℤ × Bond)
named_by c b = option_map (λ n. (n, b)) (slice_get (arguments_of c) 0)

-- the number of the task that a call names, and what it does to it
abbrev pub bond_of : Call → Option (ℤ × Bond)
bond_of c = option_and_then (named_by c) (option_and_then bond_by (action_of (service_of c)))

-- a line says that a task starts or is released
abbrev pub line_moves : ℕ → Line → Bool
line_moves t (line.Starts p u) = nat_eq u t
line_moves t (line.Gets p u reply) = nat_eq u t
line_moves t _ = false

-- a line says that a wait ended
abbrev pub is_release : Line → Bool
is_release (line.Gets p t reply) = true
is_release _ = false

-- one of the lines says so
abbrev pub moves : ℕ → List Line → Bool
moves t lines = list_any (line_moves t) lines

abbrev pub ends_wait : List Line → Bool
ends_wait lines = list_any is_release lines

-- the mark of a code that a call answers at once
abbrev pub answer_sign : Er → Option Sign
answer_sign er.Ok = None
answer_sign er.Tmout = Some sign.Polled
answer_sign er.Rlwai = Some sign.Polled
answer_sign code = Some (sign.Refused code)

-- the mark of a code that a released task gets
abbrev pub release_sign : Er → Sign
release_sign er.Ok = sign.Released
release_sign er.Tmout = sign.TimedOut
release_sign _ = sign.BrokenOff

abbrev pub reply_sign : Caller → Option Reply → Option (Caller × Sign)
reply_sign who None = None
reply_sign who (Some r) = option_map (λ s. (who, s)) (answer_sign r.code)

-- the mark of a line, and in whose lane it stands
abbrev pub line_sign : Line → Option (Caller × Sign)
line_sign (line.Int i) = Some (caller.Handler (handler.Interrupt i), sign.Requested)
line_sign (line.Call p who c reply) = reply_sign who reply
line_sign (line.End p who) = Some (who, sign.Ended)
line_sign (line.Fault p who fault) = Some (who, sign.Faulted fault)
line_sign (line.Gets p t reply) = Some (caller.Task t, release_sign reply.code)
line_sign (line.Starts p t) = Some (caller.Task t, sign.Start)
line_sign (line.Pends p c) = Some (caller.Handler (handler.Cyclic c), sign.Due)
line_sign _ = None

-- an actor is this task
abbrev pub is_itself : ℕ → Caller → Bool
is_itself t (caller.Task u) = nat_eq u t
is_itself t (caller.Handler h) = false

-- an actor's link to a task, if that is another
abbrev pub link_to : (event task : ℕ) → Bond → Option Caller → Option ActorLink
link_to event t b None = None
link_to event t b (Some who) =
    if is_itself t who then None else Some (record { event = event; from = who; task = t; bond = b })

-- the link of a line to the task that it starts or releases
abbrev pub line_link : Line → (event : ℕ) → Option Caller → Option ActorLink
line_link (line.Starts p t) event actor = link_to event t bond.Starts actor
line_link (line.Gets p t reply) event actor = link_to event t bond.Releases actor
line_link _ event actor = None

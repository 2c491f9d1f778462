-- The service calls that manage tasks (uITRON 4.0, sections 4.1 and 4.2; FMP kernel, task management).
-- p is the processor of the caller, me the caller's place, x a task's block.
use Rattle.std.specs.Prelude.{ℕ, zero, suc, ◌+◌, ◌^◌, ℤ, pos, Option, Some, None, Bool, true, false, ◌||◌, not, length}
use Rattle.std.specs.Prelude.{nat_eq, nat_lt, if◌then◌else◌}
use Rattle.fmp_base.specs.declared.codes.Er.TheVariants as er
use Rattle.fmp_base.specs.declared.states.Phase.{Phase}
use Rattle.fmp_base.specs.declared.states.Phase.TheVariants.{Dormant, Ready, Waiting}
use Rattle.fmp_base.specs.declared.states.TaskBlock.{TaskBlock}
use Rattle.fmp_base.specs.declared.states.TimeLimit.{TimeLimit}
use Rattle.fmp_base.specs.declared.states.WaitCause.{WaitCause}
use Rattle.fmp_base.specs.declared.states.WaitCause.TheVariants as cause
use Rattle.fmp_base.specs.Changes.{started, released, ended, suspended}
use Rattle.fmp_base.specs.Outcomes.{CallOutcome, code, refused, succeeds, succeeds_in, gives, waits, waits_within}
use Rattle.fmp_base.specs.Outcomes.{limit_of, numbered, named, ranged, tested, refused_if, on_task}
use Rattle.fmp_base.specs.Queues.{is_ready, queue_of, stands_by_priority, first_ready}
use Rattle.fmp_base.specs.States.{KernelState, unchanged, clock_after, task_at, with_task, with_last}
use Rattle.fmp_base.specs.Systems.{SystemTables, task_config, is_allowed_by}

abbrev pub is_dormant : Phase → Bool
is_dormant Dormant = true
is_dormant Ready = false
is_dormant (Waiting c) = false

-- the caller, or E_ID
abbrev pub self_or : KernelState → ℕ → ℤ → Option ℕ
self_or s me t = named me (length s.tasks) t

-- a task that is not named by 0, or E_ID
abbrev pub by_number : KernelState → ℤ → Option ℕ
by_number s t = numbered (length s.tasks) t

-- one more activation is queued
abbrev pub activation_queued : SystemTables → KernelState → ℕ → TaskBlock → CallOutcome
activation_queued sys s t x =
    if nat_lt x.activations sys.queue_limit then succeeds_in
    (with_task s t (record x { activations = x.activations + 1 })) else refused s er.Qovr

abbrev pub activated_by : Phase → SystemTables → KernelState → ℕ → TaskBlock → CallOutcome
activated_by Dormant sys s t x = succeeds (started sys (unchanged s) t x)
activated_by Ready sys s t x = activation_queued sys s t x
activated_by (Waiting c) sys s t x = activation_queued sys s t x

-- a dormant task starts, for another an activation is queued
abbrev pub activated : SystemTables → KernelState → ℕ → TaskBlock → CallOutcome
activated sys s t x = activated_by x.phase sys s t x

abbrev pub act_tsk : SystemTables → KernelState → ℕ → ℤ → CallOutcome
act_tsk sys s me t = on_task s (self_or s me t) (activated sys s)

abbrev pub iact_tsk : SystemTables → KernelState → ℤ → CallOutcome
iact_tsk sys s t = on_task s (by_number s t) (activated sys s)

-- gives the queued activations, and clears them and the stored processor
abbrev pub activations_cancelled : KernelState → ℕ → TaskBlock → CallOutcome
activations_cancelled s t x =
    gives (pos x.activations) (unchanged (with_task s t (record x { activations = 0; next_processor = None })))

abbrev pub can_act : KernelState → ℕ → ℤ → CallOutcome
can_act s me t = on_task s (self_or s me t) (activations_cancelled s)

abbrev pub terminated : SystemTables → KernelState → ℕ → ℕ → ℕ → TaskBlock → CallOutcome
terminated sys s p me t x =
    refused_if (nat_eq t me) s er.Iluse (refused_if (is_dormant x.phase || not (nat_eq x.processor p)) s er.Obj
    (succeeds (ended sys (unchanged s) t x)))

abbrev pub ter_tsk : SystemTables → KernelState → (p me : ℕ) → ℤ → CallOutcome
ter_tsk sys s p me t = on_task s (by_number s t) (terminated sys s p me)

-- whether a task goes to the end when its priority changes: a ready one, and one in a queue of priority order
abbrev pub goes_last : SystemTables → TaskBlock → Bool
goes_last sys x = is_ready x || stands_by_priority sys (queue_of x.phase)

abbrev pub moved_by : Bool → KernelState → ℕ → TaskBlock → KernelState
moved_by true s t y = with_last s t y
moved_by false s t y = with_task s t y

-- a priority, where 0 stands for another one
abbrev pub or_if_zero : ℕ → ℕ → ℕ
or_if_zero other zero = other
or_if_zero other (suc n) = suc n

-- priority 0 (TPRI_INI) is the initial one
abbrev pub priority_changed : SystemTables → KernelState → ℕ → TaskBlock → ℕ → CallOutcome
priority_changed sys s t x priority =
    refused_if (is_dormant x.phase) s er.Obj (succeeds_in
    (moved_by (goes_last sys x) s t (record x { priority = or_if_zero (task_config sys t).priority priority })))

abbrev pub chg_pri : SystemTables → KernelState → ℕ → ℤ → ℤ → CallOutcome
chg_pri sys s me t priority =
    on_task s (self_or s me t) (λ u x. tested s er.Par (ranged 0 16 priority) (priority_changed sys s u x))

abbrev pub get_pri : KernelState → ℕ → ℤ → CallOutcome
get_pri s me t =
    on_task s (self_or s me t) (λ u x. refused_if (is_dormant x.phase) s er.Obj (gives (pos x.priority) (unchanged s)))

abbrev pub allowed_by : Bool → ℕ → Option ℕ
allowed_by true p = Some p
allowed_by false p = None

abbrev pub allowed : SystemTables → ℕ → Option ℕ → Option ℕ
allowed sys t None = None
allowed sys t (Some p) = allowed_by (is_allowed_by (task_config sys t).only (task_config sys t).processor p) p

-- the place of a processor that the class of task t allows
abbrev pub allowed_processor : SystemTables → ℕ → ℤ → Option ℕ
allowed_processor sys t c = allowed sys t (numbered sys.processors c)

-- one more activation is queued, for a start on processor c
abbrev pub activation_queued_on : SystemTables → KernelState → ℕ → TaskBlock → ℕ → CallOutcome
activation_queued_on sys s t x c =
    if nat_lt x.activations sys.queue_limit then succeeds_in
    (with_task s t (record x { activations = x.activations + 1; next_processor = Some c })) else refused s er.Qovr

abbrev pub activated_on_by : Phase → SystemTables → KernelState → ℕ → TaskBlock → ℕ → CallOutcome
activated_on_by Dormant sys s t x c = succeeds (started sys (unchanged s) t (record x { processor = c }))
activated_on_by Ready sys s t x c = activation_queued_on sys s t x c
activated_on_by (Waiting w) sys s t x c = activation_queued_on sys s t x c

abbrev pub mact_tsk : SystemTables → KernelState → ℕ → ℤ → ℤ → CallOutcome
mact_tsk sys s me t c =
    on_task s (self_or s me t) (λ u x. tested s er.Par (allowed_processor sys u c) (activated_on_by x.phase sys s u x))

-- the task is assigned to c; on its own processor nothing changes
abbrev pub assigned_by : Bool → KernelState → ℕ → TaskBlock → ℕ → KernelState
assigned_by true s t x c = s
assigned_by false s t x c = moved_by (is_ready x) s t (record x { processor = c })

abbrev pub migrated : KernelState → ℕ → ℕ → TaskBlock → ℕ → CallOutcome
migrated s p t x c =
    refused_if (is_dormant x.phase || not (nat_eq x.processor p)) s er.Obj
    (succeeds_in (assigned_by (nat_eq x.processor c) s t x c))

abbrev pub mig_tsk : SystemTables → KernelState → (p me : ℕ) → ℤ → ℤ → CallOutcome
mig_tsk sys s p me t c =
    on_task s (self_or s me t) (λ u x. tested s er.Par (allowed_processor sys u c) (migrated s p u x))

-- a queued wakeup is taken, else the caller sleeps within a limit
abbrev pub slept_by : ℕ → KernelState → ℕ → TaskBlock → TimeLimit → CallOutcome
slept_by zero s me x limit = waits_within limit s me x cause.Sleep
slept_by (suc n) s me x limit = succeeds_in (with_task s me (record x { wakeups = n }))

abbrev pub slp_tsk : KernelState → ℕ → TaskBlock → TimeLimit → CallOutcome
slp_tsk s me x limit = slept_by x.wakeups s me x limit

abbrev pub tslp_tsk : KernelState → ℕ → TaskBlock → ℤ → CallOutcome
tslp_tsk s me x tmout = tested s er.Par (limit_of tmout) (slp_tsk s me x)

-- one more wakeup is queued
abbrev pub wakeup_queued : SystemTables → KernelState → ℕ → TaskBlock → CallOutcome
wakeup_queued sys s t x =
    if nat_lt x.wakeups sys.queue_limit then succeeds_in (with_task s t (record x { wakeups = x.wakeups + 1 })) else
    refused s er.Qovr

-- a sleeping task is released, for another that is not dormant a wakeup is queued
abbrev pub woken_from : WaitCause → SystemTables → KernelState → ℕ → TaskBlock → CallOutcome
woken_from cause.Sleep sys s t x = succeeds (released (unchanged s) t x (code er.Ok))
woken_from _ sys s t x = wakeup_queued sys s t x

abbrev pub woken_by : Phase → SystemTables → KernelState → ℕ → TaskBlock → CallOutcome
woken_by Dormant sys s t x = refused s er.Obj
woken_by Ready sys s t x = wakeup_queued sys s t x
woken_by (Waiting c) sys s t x = woken_from c sys s t x

abbrev pub woken : SystemTables → KernelState → ℕ → TaskBlock → CallOutcome
woken sys s t x = woken_by x.phase sys s t x

abbrev pub wup_tsk : SystemTables → KernelState → ℕ → ℤ → CallOutcome
wup_tsk sys s me t = on_task s (self_or s me t) (woken sys s)

abbrev pub iwup_tsk : SystemTables → KernelState → ℤ → CallOutcome
iwup_tsk sys s t = on_task s (by_number s t) (woken sys s)

abbrev pub can_wup : KernelState → ℕ → ℤ → CallOutcome
can_wup s me t =
    on_task s (self_or s me t) (λ u x. refused_if (is_dormant x.phase) s er.Obj
    (gives (pos x.wakeups) (unchanged (with_task s u (record x { wakeups = 0 })))))

abbrev pub released_by : Phase → KernelState → ℕ → TaskBlock → CallOutcome
released_by Dormant s t x = refused s er.Obj
released_by Ready s t x = refused s er.Obj
released_by (Waiting c) s t x = succeeds (released (unchanged s) t x (code er.Rlwai))

-- rel_wai and irel_wai: a waiting task is released by force
abbrev pub rel_wai : KernelState → ℤ → CallOutcome
rel_wai s t = on_task s (by_number s t) (λ u x. released_by x.phase s u x)

abbrev pub sus_tsk : KernelState → ℕ → ℤ → CallOutcome
sus_tsk s me t =
    on_task s (self_or s me t) (λ u x. refused_if (is_dormant x.phase) s er.Obj
    (refused_if x.suspended s er.Qovr (succeeds_in (suspended s u x))))

-- a waiting task goes on waiting in its place, another is ready, at the end
abbrev pub resumed_by : Phase → KernelState → ℕ → TaskBlock → KernelState
resumed_by Dormant s t y = with_last s t y
resumed_by Ready s t y = with_last s t y
resumed_by (Waiting c) s t y = with_task s t y

abbrev pub rsm_tsk : KernelState → ℤ → CallOutcome
rsm_tsk s t =
    on_task s (by_number s t) (λ u x. refused_if (not x.suspended) s er.Obj
    (succeeds_in (resumed_by x.phase s u (record x { suspended = false }))))

-- the caller waits until the clock has advanced by more than d
abbrev pub dly_tsk : KernelState → ℕ → TaskBlock → ℤ → CallOutcome
dly_tsk s me x d = tested s er.Par (ranged 0 (2 ^ 30) d) (λ n. waits s me x cause.Delay (Some (clock_after s n)))

-- the first of a queue goes to the end
abbrev pub rotated : KernelState → Option ℕ → KernelState
rotated s None = s
rotated s (Some t) = with_last s t (task_at s.tasks t)

-- priority 0 (TPRI_SELF) is the caller's current one
abbrev pub rot_rdq : KernelState → ℕ → TaskBlock → ℤ → CallOutcome
rot_rdq s p x priority =
    tested s er.Par (ranged 0 16 priority) (λ n. succeeds_in (rotated s (first_ready s p (or_if_zero x.priority n))))

abbrev pub irot_rdq : KernelState → ℕ → ℤ → CallOutcome
irot_rdq s p priority = tested s er.Par (ranged 1 16 priority) (λ n. succeeds_in (rotated s (first_ready s p n)))

-- the queue is that of processor c; priority 0 (TPRI_SELF) is the caller's current one
abbrev pub mrot_rdq : SystemTables → KernelState → TaskBlock → ℤ → ℤ → CallOutcome
mrot_rdq sys s x priority c =
    tested s er.Par (ranged 0 16 priority) (λ n. tested s er.Par (numbered sys.processors c)
    (λ q. succeeds_in (rotated s (first_ready s q (or_if_zero x.priority n)))))

abbrev pub get_tid : KernelState → ℕ → CallOutcome
get_tid s me = gives (pos (me + 1)) (unchanged s)

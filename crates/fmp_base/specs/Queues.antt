-- The ready queues of the processors and the wait queues of the objects (uITRON 4.0, sections 3.2 and 4.4):
-- each is a part of the one order.
use Rattle.std.specs.Prelude.{ℕ, List, [], ◌∷◌, Option, Some, None, Bool, true, false, ◌&&◌, filter, not, nat_eq}
use Rattle.std.specs.Prelude.{nat_lt, nat_le, if◌then◌else◌}
use Rattle.fmp_base.specs.declared.states.Phase.{Phase}
use Rattle.fmp_base.specs.declared.states.Phase.TheVariants.{Dormant, Ready, Waiting}
use Rattle.fmp_base.specs.declared.states.TaskBlock.{TaskBlock}
use Rattle.fmp_base.specs.declared.states.WaitCause.{WaitCause}
use Rattle.fmp_base.specs.declared.states.WaitCause.TheVariants as cause
use Rattle.fmp_base.specs.declared.states.WaitQueue.{WaitQueue}
use Rattle.fmp_base.specs.declared.states.WaitQueue.TheVariants as queue
use Rattle.fmp_base.specs.declared.systems.QueueOrder.{QueueOrder}
use Rattle.fmp_base.specs.declared.systems.QueueOrder.TheVariants.{Fifo, Priority}
use Rattle.fmp_base.specs.States.{KernelState, task_at}
use Rattle.fmp_base.specs.Systems.{SystemTables, semaphore_config, flag_config, data_queue_config, mailbox_config}

abbrev pub is_ready_phase : Phase → Bool
is_ready_phase Ready = true
is_ready_phase Dormant = false
is_ready_phase (Waiting c) = false

-- able to run: neither dormant nor waiting nor suspended
abbrev pub is_ready : TaskBlock → Bool
is_ready x = is_ready_phase x.phase && not x.suspended

abbrev pub is_ready_on : ℕ → TaskBlock → Bool
is_ready_on p x = is_ready x && nat_eq x.processor p

-- the ready tasks that are assigned to p, in order
abbrev pub ready_queue : KernelState → ℕ → List ℕ
ready_queue s p = filter (λ t. is_ready_on p (task_at s.tasks t)) s.order

abbrev pub priority_in : List TaskBlock → ℕ → ℕ
priority_in tasks t = (task_at tasks t).priority

-- t, or the most urgent of those after it where that one is more urgent
abbrev pub more_urgent : List TaskBlock → ℕ → Option ℕ → Option ℕ
more_urgent tasks t None = Some t
more_urgent tasks t (Some u) = if nat_lt (priority_in tasks u) (priority_in tasks t) then Some u else Some t

-- the first of the most urgent
abbrev pub first_urgent : List TaskBlock → List ℕ → Option ℕ
first_urgent tasks [] = None
first_urgent tasks (t ∷ ts) = more_urgent tasks t (first_urgent tasks ts)

-- the task that processor p is to run: the first of the most urgent ready ones, or none
abbrev pub top : KernelState → ℕ → Option ℕ
top s p = first_urgent s.tasks (ready_queue s p)

abbrev pub first_of : List ℕ → Option ℕ
first_of [] = None
first_of (t ∷ ts) = Some t

-- the first ready task of a priority on p
abbrev pub first_ready : KernelState → ℕ → ℕ → Option ℕ
first_ready s p priority = first_of (filter (λ t. nat_eq (priority_in s.tasks t) priority) (ready_queue s p))

-- t before those that are no more urgent, where f gives priorities
abbrev pub placed : (ℕ → ℕ) → ℕ → List ℕ → List ℕ
placed f t [] = t ∷ []
placed f t (u ∷ us) = if nat_le (f t) (f u) then t ∷ u ∷ us else u ∷ placed f t us

-- sorted by priority, those of one priority in their order
abbrev pub sorted : (ℕ → ℕ) → List ℕ → List ℕ
sorted f [] = []
sorted f (t ∷ ts) = placed f t (sorted f ts)

abbrev pub arranged : QueueOrder → (ℕ → ℕ) → List ℕ → List ℕ
arranged Fifo f ts = ts
arranged Priority f ts = sorted f ts

-- the wait queue of a cause, if it has one
abbrev pub queue_of_cause : WaitCause → Option WaitQueue
queue_of_cause cause.Sleep = None
queue_of_cause cause.Delay = None
queue_of_cause (cause.Semaphore s) = Some (queue.Semaphore s)
queue_of_cause (cause.Flag f pattern mode) = Some (queue.Flag f)
queue_of_cause (cause.Sending d word) = Some (queue.Senders d)
queue_of_cause (cause.Receiving d) = Some (queue.Receivers d)
queue_of_cause (cause.Mailbox mailbox) = Some (queue.Mailbox mailbox)

-- the wait queue in which a task of this phase stands, if any
abbrev pub queue_of : Phase → Option WaitQueue
queue_of Dormant = None
queue_of Ready = None
queue_of (Waiting c) = queue_of_cause c

abbrev pub is_same_queue : WaitQueue → WaitQueue → Bool
is_same_queue (queue.Semaphore a) (queue.Semaphore b) = nat_eq a b
is_same_queue (queue.Flag a) (queue.Flag b) = nat_eq a b
is_same_queue (queue.Senders a) (queue.Senders b) = nat_eq a b
is_same_queue (queue.Receivers a) (queue.Receivers b) = nat_eq a b
is_same_queue (queue.Mailbox a) (queue.Mailbox b) = nat_eq a b
is_same_queue _ _ = false

abbrev pub is_queue : WaitQueue → Option WaitQueue → Bool
is_queue q None = false
is_queue q (Some r) = is_same_queue q r

abbrev pub waits_in : WaitQueue → TaskBlock → Bool
waits_in q x = is_queue q (queue_of x.phase)

-- the order of a wait queue: that of its object, where receivers of words queue FIFO
abbrev pub order_of : SystemTables → WaitQueue → QueueOrder
order_of sys (queue.Semaphore s) = (semaphore_config sys s).order
order_of sys (queue.Flag f) = (flag_config sys f).order
order_of sys (queue.Senders d) = (data_queue_config sys d).order
order_of sys (queue.Receivers d) = Fifo
order_of sys (queue.Mailbox mailbox) = (mailbox_config sys mailbox).order

-- the tasks that wait in a queue, those to be released first in front
abbrev pub wait_queue : SystemTables → KernelState → WaitQueue → List ℕ
wait_queue sys s q =
    arranged (order_of sys q) (priority_in s.tasks) (filter (λ t. waits_in q (task_at s.tasks t)) s.order)

abbrev pub first_waiting : SystemTables → KernelState → WaitQueue → Option ℕ
first_waiting sys s q = first_of (wait_queue sys s q)

abbrev pub is_by_priority : QueueOrder → Bool
is_by_priority Fifo = false
is_by_priority Priority = true

abbrev pub stands_by_priority : SystemTables → Option WaitQueue → Bool
stands_by_priority sys None = false
stands_by_priority sys (Some q) = is_by_priority (order_of sys q)

-- Where a task stands: by its block it has a place among the lists, of the ready queues first and then of the wait
-- queues, or none.
use Rattle.std.specs.Prelude.{◌≡◌, ℕ, ◌∷◌, [], ◌+◌, ◌-◌, ◌*◌, ◌<◌, ◌≤◌, List, Option, Some, None, Bool, true, false}
use Rattle.std.specs.Prelude.{◌&&◌, ◌||◌, length, slice_set, filter, nat_eq, nat_lt, IfSome, if◌then◌else◌}
use Rattle.std.specs.List.{list_any}
use Rattle.fmp_base.specs.declared.states.Phase.{Phase}
use Rattle.fmp_base.specs.declared.states.Phase.TheVariants.{Dormant, Ready, Waiting}
use Rattle.fmp_base.specs.declared.states.TaskBlock.{TaskBlock}
use Rattle.fmp_base.specs.declared.states.WaitQueue.{WaitQueue}
use Rattle.fmp_base.specs.declared.states.WaitQueue.TheVariants as queue
use Rattle.fmp_base.specs.declared.systems.QueueOrder.{QueueOrder}
use Rattle.fmp_base.specs.declared.systems.QueueOrder.TheVariants.{Fifo}
use Rattle.fmp_base.specs.Queues.{is_ready, queue_of, order_of, arranged, priority_in, stands_by_priority}
use Rattle.fmp_base.specs.MailboxCalls.{enqueued}
use Rattle.fmp_base.specs.States.{task_at, without}
use Rattle.fmp_base.specs.Systems.{SystemTables}
use Rattle.fmp_base.specs.TaskCalls.{is_dormant}
use Rattle.fmp_ready.specs.ReadyLists.{head as ready_head}
use Rattle.fmp_ring.specs.RingLists.{list_at}
use Rattle.fmp_waitq.specs.declared.queues.ObjectCounts.{ObjectCounts}
use Rattle.fmp_waitq.specs.declared.queues.WaitQueues.{WaitQueues}
use Rattle.fmp_waitq.specs.WaitLists.{head as wait_head, IsThere}

abbrev pub is_waiting : Phase → Bool
is_waiting Dormant = false
is_waiting Ready = false
is_waiting (Waiting c) = true

-- whether a task stands in the order: it is ready and not suspended, or it waits
abbrev pub is_in_order : TaskBlock → Bool
is_in_order x = is_ready x || is_waiting x.phase

abbrev pub some_if : Bool → ℕ → Option ℕ
some_if true h = Some h
some_if false h = None

-- the place of the ready queue of a task, if it is ready and not suspended
abbrev pub ready_home : TaskBlock → Option ℕ
ready_home x = some_if (is_ready x) (ready_head x.processor x.priority)

-- the place of a wait queue, if there is one
abbrev pub wait_home : WaitQueues → Option WaitQueue → Option ℕ
wait_home w None = None
wait_home w (Some q) = Some (wait_head w q)

-- the place of the queue of a task, if it stands in one: it is ready and not suspended, or it waits
abbrev pub home : WaitQueues → TaskBlock → Option ℕ
home w x = if is_ready x then Some (ready_head x.processor x.priority) else wait_home w (queue_of x.phase)

-- the wait queue whose list has this place among those of the wait queues
abbrev pub queue_with_place : ObjectCounts → ℕ → WaitQueue
queue_with_place n h =
    if nat_lt h n.semaphores then queue.Semaphore h else
    (if nat_lt h (n.semaphores + n.flags) then queue.Flag (h - n.semaphores) else
    (if nat_lt h (n.semaphores + n.flags + n.data_queues) then queue.Senders (h - (n.semaphores + n.flags)) else
    (if nat_lt h (n.semaphores + n.flags + n.data_queues + n.data_queues)
    then queue.Receivers (h - (n.semaphores + n.flags + n.data_queues))
    else queue.Mailbox (h - (n.semaphores + n.flags + n.data_queues + n.data_queues)))))

-- the objects of a system that have wait queues
abbrev pub counts_of : SystemTables → ObjectCounts
counts_of sys =
    record {
      semaphores = length sys.semaphores;
      flags = length sys.flags;
      data_queues = length sys.data_queues;
      mailboxes = length sys.mailboxes;
    }

-- the wait queues of a system
abbrev pub waits_of : SystemTables → WaitQueues
waits_of sys = record { processors = sys.processors; counts = counts_of sys }

-- the order of the list at a place: of a ready queue always FIFO
abbrev pub order_with_head : WaitQueues → SystemTables → ℕ → QueueOrder
order_with_head w sys h =
    if nat_lt h (w.processors * 16) then Fifo else order_of sys (queue_with_place w.counts (h - w.processors * 16))

abbrev pub is_at : ℕ → Option ℕ → Bool
is_at h None = false
is_at h (Some g) = nat_eq g h

-- the tasks whose home is h: a part of the order, arranged
abbrev pub queue_at_home : (TaskBlock → Option ℕ) → (ℕ → QueueOrder) → List TaskBlock → List ℕ → ℕ → List ℕ
queue_at_home home by tasks order h =
    arranged (by h) (priority_in tasks) (filter (λ u. is_at h (home (task_at tasks u))) order)

-- each list is the part of the order that has its home there
pub record Kept (home : TaskBlock → Option ℕ) (by : ℕ → QueueOrder) (tasks : List TaskBlock) (order : List ℕ)
    (lists : List (List ℕ)) : Type 0 where
  pub each : (h : ℕ) → h < length lists → list_at lists h ≡ queue_at_home home by tasks order h

-- t is in the list of a home, if that is one
abbrev pub IsAmong : ℕ → List (List ℕ) → Option ℕ → Type 0
IsAmong t lists None = Unit {0}
IsAmong t lists (Some h) = list_any (nat_eq t) (list_at lists h) ≡ true

-- the lists after t left the one of its home
abbrev pub left_from : List (List ℕ) → Option ℕ → ℕ → List (List ℕ)
left_from lists None t = lists
left_from lists (Some h) t = slice_set lists h (without (list_at lists h) t)

-- the lists after t joined the one of its home
abbrev pub joined_to : (ℕ → QueueOrder) → (ℕ → ℕ) → List (List ℕ) → Option ℕ → ℕ → List (List ℕ)
joined_to by f lists None t = lists
joined_to by f lists (Some h) t = slice_set lists h (enqueued (by h) f t (list_at lists h))

-- the queue of an option exists
abbrev pub IsSomeThere : ObjectCounts → Option WaitQueue → Type 0
IsSomeThere n None = Unit {0}
IsSomeThere n (Some q) = IsThere n q

-- a block whose numbers are in range; a dormant task is not suspended
pub record Fits (sys : SystemTables) (x : TaskBlock) : Type 0 where
  pub urgent : 1 ≤ x.priority
  pub least : x.priority ≤ 16
  pub processor : x.processor < sys.processors
  pub next_processor : IfSome x.next_processor (λ p. p < sys.processors)
  pub queue : IsSomeThere (counts_of sys) (queue_of x.phase)
  pub dormant : (is_dormant x.phase && x.suspended) ≡ false

abbrev pub AllFit : SystemTables → List TaskBlock → Type 0
AllFit sys [] = Unit {0}
AllFit sys (x ∷ xs) = Fits sys x × AllFit sys xs

pub record BlocksFit (sys : SystemTables) (tasks : List TaskBlock) : Type 0 where
  pub each : AllFit sys tasks

-- the tasks in the order are those that stand there by their blocks
pub record Standing (tasks : List TaskBlock) (order : List ℕ) : Type 0 where
  pub each : (t : ℕ) → t < length tasks → list_any (nat_eq t) order ≡ is_in_order (task_at tasks t)

-- a block that may take the place of another where it stands: in the same queue, by the same priority where that counts
pub record Stays (sys : SystemTables) (x y : TaskBlock) : Type 0 where
  pub in_order : is_in_order y ≡ is_in_order x
  pub ready : ready_home y ≡ ready_home x
  pub queue : queue_of y.phase ≡ queue_of x.phase
  pub priority : stands_by_priority sys (queue_of y.phase) ≡ true → y.priority ≡ x.priority

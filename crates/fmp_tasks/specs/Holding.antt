-- The queue that holds a task, and the mailbox that holds a message.
use Rattle.std.specs.Prelude.{ℕ, List, [], ◌∷◌, Option, Some, None, filter, nat_eq, if◌then◌else◌}
use Rattle.fmp_base.specs.declared.states.WaitQueue.{WaitQueue}
use Rattle.fmp_base.specs.Queues.{is_ready, priority_in, queue_of, ready_queue, wait_queue}
use Rattle.fmp_base.specs.States.{KernelState, task_at}
use Rattle.fmp_base.specs.Systems.{SystemTables}
use Rattle.fmp_ring.specs.RingLists.{is_in}

-- the tasks in a wait queue, if there is one
abbrev pub waiting_there : SystemTables → KernelState → Option WaitQueue → List ℕ
waiting_there sys s None = []
waiting_there sys s (Some q) = wait_queue sys s q

-- the queue in which task t stands: the ready tasks of its processor and priority if it is able to run, else its wait
-- queue; empty if it stands in none
abbrev pub queue_holding : SystemTables → KernelState → ℕ → List ℕ
queue_holding sys s t =
    if is_ready (task_at s.tasks t)
    then filter (λ u. nat_eq (priority_in s.tasks u) (priority_in s.tasks t))
    (ready_queue s (task_at s.tasks t).processor)
    else waiting_there sys s (queue_of (task_at s.tasks t).phase)

-- the messages of the mailbox in which message g is queued; empty if it is queued nowhere
abbrev pub messages_holding : List (List ℕ) → ℕ → List ℕ
messages_holding [] g = []
messages_holding (messages ∷ rest) g = if is_in g messages then messages else messages_holding rest g

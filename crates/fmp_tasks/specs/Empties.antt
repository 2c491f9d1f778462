-- The queues, deadlines and mailboxes of a system in which no task has started.
use Rattle.std.specs.Prelude.{ℕ, ◌+◌, ◌*◌, List, [], Option, None, replicate, length}
use Rattle.fmp_base.specs.Systems.{SystemTables}
use Rattle.fmp_ring.specs.RingLists.{RingLists}
use Rattle.fmp_waitq.specs.WaitLists.{count_of_lists}
use Rattle.fmp_tasks.specs.Homes.{counts_of}

-- no ready queue has a bit
abbrev pub no_bits : SystemTables → List ℕ
no_bits sys = replicate sys.processors 0

-- empty lists: sixteen ready queues for each processor, and then the wait queues
abbrev pub no_tasks : SystemTables → RingLists
no_tasks sys =
    record { nodes = length sys.tasks; lists = replicate (sys.processors * 16 + count_of_lists (counts_of sys)) [] }

abbrev pub no_deadlines : SystemTables → List (Option ℕ)
no_deadlines sys = replicate (length sys.tasks) None

-- the nodes of mailboxes are messages
abbrev pub empty_mailboxes : SystemTables → RingLists
empty_mailboxes sys = record { nodes = length sys.messages; lists = replicate (length sys.mailboxes) [] }

-- What C reads of a system's tables: counts, names and numbers, by kinds of objects and their numbers, which go from 1.
use Rattle.std.specs.Prelude.{ℕ, ◌-◌, List, [], length, Option, Some, None, ◌++◌, drop, slice_get, if◌then◌else◌}
use Rattle.std.specs.Prelude.{nat_eq, nat_le}
use Rattle.fmp_base.specs.declared.names.Name.{Name}
use Rattle.fmp_base.specs.declared.systems.Entry.{Entry}
use Rattle.fmp_base.specs.declared.systems.Entry.TheVariants as entry
use Rattle.fmp_base.specs.declared.systems.TaskConfig.{TaskConfig}
use Rattle.fmp_base.specs.declared.systems.SemaphoreConfig.{SemaphoreConfig}
use Rattle.fmp_base.specs.declared.systems.FlagConfig.{FlagConfig}
use Rattle.fmp_base.specs.declared.systems.DataQueueConfig.{DataQueueConfig}
use Rattle.fmp_base.specs.declared.systems.MailboxConfig.{MailboxConfig}
use Rattle.fmp_base.specs.declared.systems.MessageConfig.{MessageConfig}
use Rattle.fmp_base.specs.declared.systems.SharedWordConfig.{SharedWordConfig}
use Rattle.fmp_base.specs.declared.systems.SpinLockConfig.{SpinLockConfig}
use Rattle.fmp_base.specs.declared.systems.CyclicConfig.{CyclicConfig}
use Rattle.fmp_base.specs.declared.systems.InterruptConfig.{InterruptConfig}
use Rattle.fmp_base.specs.Names.{name_text}
use Rattle.fmp_base.specs.Systems.{SystemTables}
use Rattle.fmp_c.specs.declared.names.Kind.{Kind}
use Rattle.fmp_c.specs.declared.names.Kind.TheVariants as kind
use Rattle.fmp_c.specs.declared.names.TheConstants.{KINDS}

-- the item of this number
abbrev pub item : {T : Type 0} → List T → ℕ → Option T
item xs n = if nat_eq n 0 then None else slice_get xs (n - 1)

-- the kind of this number
abbrev pub kind_by : ℕ → Option Kind
kind_by n = item KINDS n

-- how many items of a kind there are
abbrev pub count_in : SystemTables → Kind → ℕ
count_in s kind.Tasks = length s.tasks
count_in s kind.Semaphores = length s.semaphores
count_in s kind.Flags = length s.flags
count_in s kind.DataQueues = length s.data_queues
count_in s kind.Mailboxes = length s.mailboxes
count_in s kind.Messages = length s.messages
count_in s kind.SharedWords = length s.shared_words
count_in s kind.SpinLocks = length s.spin_locks
count_in s kind.Cyclics = length s.cyclics
count_in s kind.Interrupts = length s.interrupts

abbrev pub count_by : SystemTables → Option Kind → ℕ
count_by s None = 0
count_by s (Some k) = count_in s k

abbrev pub count_of : SystemTables → ℕ → ℕ
count_of s k = count_by s (kind_by k)

-- what is read of an item, if there is one
abbrev pub read_of : {T U : Type 0} → (T → U) → Option T → Option U
read_of f None = None
read_of f (Some x) = Some (f x)

-- the name of an item; interrupt handlers have none
abbrev pub name_in : SystemTables → Kind → ℕ → Option Name
name_in s kind.Tasks n = read_of (λ (it : TaskConfig). it.name) (item s.tasks n)
name_in s kind.Semaphores n = read_of (λ (it : SemaphoreConfig). it.name) (item s.semaphores n)
name_in s kind.Flags n = read_of (λ (it : FlagConfig). it.name) (item s.flags n)
name_in s kind.DataQueues n = read_of (λ (it : DataQueueConfig). it.name) (item s.data_queues n)
name_in s kind.Mailboxes n = read_of (λ (it : MailboxConfig). it.name) (item s.mailboxes n)
name_in s kind.Messages n = read_of (λ (it : MessageConfig). it.name) (item s.messages n)
name_in s kind.SharedWords n = read_of (λ (it : SharedWordConfig). it.name) (item s.shared_words n)
name_in s kind.SpinLocks n = read_of (λ (it : SpinLockConfig). it.name) (item s.spin_locks n)
name_in s kind.Cyclics n = read_of (λ (it : CyclicConfig). it.name) (item s.cyclics n)
name_in s kind.Interrupts n = None

abbrev pub name_by : SystemTables → Option Kind → ℕ → Option Name
name_by s None n = None
name_by s (Some k) n = name_in s k n

abbrev pub name_of : SystemTables → (kind number : ℕ) → Option Name
name_of s k n = name_by s (kind_by k) n

abbrev pub named_by : Entry → Option Name
named_by (entry.Named name) = Some name
named_by (entry.Body place) = None

abbrev pub named : Option Entry → Option Name
named None = None
named (Some e) = named_by e

-- the name of the body of a task, a cyclic handler or an interrupt handler
abbrev pub body_in : SystemTables → Kind → ℕ → Option Name
body_in s kind.Tasks n = named (read_of (λ (it : TaskConfig). it.entry) (item s.tasks n))
body_in s kind.Cyclics n = named (read_of (λ (it : CyclicConfig). it.entry) (item s.cyclics n))
body_in s kind.Interrupts n = named (read_of (λ (it : InterruptConfig). it.entry) (item s.interrupts n))
body_in s k n = None

abbrev pub body_by : SystemTables → Option Kind → ℕ → Option Name
body_by s None n = None
body_by s (Some k) n = body_in s k n

abbrev pub body_of : SystemTables → (kind number : ℕ) → Option Name
body_of s k n = body_by s (kind_by k) n

abbrev pub number_or_0 : Option ℕ → ℕ
number_or_0 None = 0
number_or_0 (Some n) = n

-- the bytes of a task's stack, or the number of the interrupt of a handler; 0 where there is none
abbrev pub detail_in : SystemTables → Kind → ℕ → ℕ
detail_in s kind.Tasks n = number_or_0 (read_of (λ (it : TaskConfig). it.stack) (item s.tasks n))
detail_in s kind.Interrupts n = number_or_0 (read_of (λ (it : InterruptConfig). it.number) (item s.interrupts n))
detail_in s k n = 0

abbrev pub detail_by : SystemTables → Option Kind → ℕ → ℕ
detail_by s None n = 0
detail_by s (Some k) n = detail_in s k n

abbrev pub detail_of : SystemTables → (kind number : ℕ) → ℕ
detail_of s k n = detail_by s (kind_by k) n

-- the bytes of a name, or none
abbrev pub name_bytes : Option Name → List ℕ
name_bytes None = []
name_bytes (Some name) = name_text name

-- the room after a text was put there: the text and what was after it, if there is room for the text
abbrev pub put : List ℕ → List ℕ → List ℕ
put text room = if nat_le (length text) (length room) then (text ++ drop (length text) room) else room

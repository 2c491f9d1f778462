-- The ranges of a system: what every accepted configuration and every image keeps, and all that the kernel requires of
-- a system.
use Rattle.std.specs.Prelude.{ℕ, ◌<◌, ◌≤◌, ◌^◌, List, length}
use Rattle.std.specs.List.{AllByRecursion}
use Rattle.fmp_base.specs.declared.systems.TaskConfig.{TaskConfig}
use Rattle.fmp_base.specs.declared.systems.SemaphoreConfig.{SemaphoreConfig}
use Rattle.fmp_base.specs.declared.systems.FlagConfig.{FlagConfig}
use Rattle.fmp_base.specs.declared.systems.DataQueueConfig.{DataQueueConfig}
use Rattle.fmp_base.specs.declared.systems.MailboxConfig.{MailboxConfig}
use Rattle.fmp_base.specs.declared.systems.MessageConfig.{MessageConfig}
use Rattle.fmp_base.specs.declared.systems.CyclicConfig.{CyclicConfig}
use Rattle.fmp_base.specs.declared.systems.InterruptConfig.{InterruptConfig}
use Rattle.fmp_base.specs.Systems.{SystemTables}

-- the number lies between these two, both included
pub record Lies (low high n : ℕ) : Type 0 where
  pub least : low ≤ n
  pub most : n ≤ high

-- the ranges of an object of each kind, given the number of processors
pub record TaskInRange (processors : ℕ) (t : TaskConfig) : Type 0 where
  pub priority : Lies 1 16 t.priority
  pub stack : Lies 1 65536 t.stack
  pub processor : t.processor < processors

pub record SemaphoreInRange (s : SemaphoreConfig) : Type 0 where
  pub initial : s.initial ≤ s.most
  pub most : Lies 1 65535 s.most

pub record FlagInRange (f : FlagConfig) : Type 0 where
  pub initial : f.initial ≤ 65535

pub record DataQueueInRange (d : DataQueueConfig) : Type 0 where
  pub capacity : d.capacity ≤ 255

pub record MailboxInRange (b : MailboxConfig) : Type 0 where
  pub most : Lies 1 16 b.most

pub record MessageInRange (m : MessageConfig) : Type 0 where
  pub priority : Lies 1 16 m.priority

pub record CyclicInRange (processors : ℕ) (c : CyclicConfig) : Type 0 where
  pub period : Lies 1 (2 ^ 30) c.period
  pub phase : c.phase ≤ 2 ^ 30
  pub processor : c.processor < processors

pub record InterruptInRange (processors : ℕ) (i : InterruptConfig) : Type 0 where
  pub number : Lies 1 32 i.number
  pub processor : i.processor < processors

-- a table of at most 255 such objects
pub record IsTable {A : Type 0} (P : A → Type 0) (rows : List A) : Type 0 where
  pub count : length rows ≤ 255
  pub each : AllByRecursion P rows

-- 1 to 8 processors, and tables in range
pub record IsInRange (sys : SystemTables) : Type 0 where
  pub processors : Lies 1 8 sys.processors
  pub queue_limit : Lies 1 255 sys.queue_limit
  pub tasks : IsTable (TaskInRange sys.processors) sys.tasks
  pub semaphores : IsTable SemaphoreInRange sys.semaphores
  pub flags : IsTable FlagInRange sys.flags
  pub data_queues : IsTable DataQueueInRange sys.data_queues
  pub mailboxes : IsTable MailboxInRange sys.mailboxes
  pub messages : IsTable MessageInRange sys.messages
  pub shared_words : length sys.shared_words ≤ 255
  pub spin_locks : length sys.spin_locks ≤ 255
  pub cyclics : IsTable (CyclicInRange sys.processors) sys.cyclics
  pub interrupts : IsTable (InterruptInRange sys.processors) sys.interrupts

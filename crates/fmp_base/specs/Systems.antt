-- The tables of an accepted configuration, as data without memory, and look-ups in them by place.
use Rattle.std.specs.Prelude.{ℕ, ◌+◌, pos, List, [], ◌∷◌, Option, Some, None, Bool, true, false, slice_get, nat_eq}
use Rattle.std.specs.Prelude.{if◌then◌else◌}
use Rattle.fmp_base.specs.declared.names.Name.{Name}
use Rattle.fmp_base.specs.declared.systems.Entry.{Entry}
use Rattle.fmp_base.specs.declared.systems.Entry.TheVariants as entry
use Rattle.fmp_base.specs.declared.systems.QueueOrder.TheVariants.{Fifo}
use Rattle.fmp_base.specs.declared.systems.TaskConfig.{TaskConfig}
use Rattle.fmp_base.specs.declared.systems.SemaphoreConfig.{SemaphoreConfig}
use Rattle.fmp_base.specs.declared.systems.FlagConfig.{FlagConfig}
use Rattle.fmp_base.specs.declared.systems.DataQueueConfig.{DataQueueConfig}
use Rattle.fmp_base.specs.declared.systems.MailboxConfig.{MailboxConfig}
use Rattle.fmp_base.specs.declared.systems.MessageConfig.{MessageConfig}
use Rattle.fmp_base.specs.declared.systems.SharedWordConfig.{SharedWordConfig}
use Rattle.fmp_base.specs.declared.systems.SpinLockConfig.{SpinLockConfig}
use Rattle.fmp_base.specs.declared.systems.CyclicConfig.{CyclicConfig}
use Rattle.fmp_base.specs.declared.systems.InterruptConfig.{InterruptConfig}
use Rattle.fmp_base.specs.declared.systems.System as declared
use Rattle.fmp_base.specs.declared.systems.TheConstants.{QUEUE_LIMIT}
use Rattle.fmp_base.specs.Names.{name_from}

pub record SystemTables : Type 0 where
  pub processors : ℕ
  pub queue_limit : ℕ
  pub tasks : List TaskConfig
  pub semaphores : List SemaphoreConfig
  pub flags : List FlagConfig
  pub data_queues : List DataQueueConfig
  pub mailboxes : List MailboxConfig
  pub messages : List MessageConfig
  pub shared_words : List SharedWordConfig
  pub spin_locks : List SpinLockConfig
  pub cyclics : List CyclicConfig
  pub interrupts : List InterruptConfig

-- the tables that a `System` holds
abbrev pub tables_of : declared.System → SystemTables
tables_of s =
    record {
      processors = s.processors;
      queue_limit = s.queue_limit;
      tasks = s.tasks.items;
      semaphores = s.semaphores.items;
      flags = s.flags.items;
      data_queues = s.data_queues.items;
      mailboxes = s.mailboxes.items;
      messages = s.messages.items;
      shared_words = s.shared_words.items;
      spin_locks = s.spin_locks.items;
      cyclics = s.cyclics.items;
      interrupts = s.interrupts.items;
    }

-- n processors and no object yet, with the queue limit of a configuration
abbrev pub without_objects : ℕ → SystemTables
without_objects processors =
    record {
      processors = processors;
      queue_limit = QUEUE_LIMIT;
      tasks = [];
      semaphores = [];
      flags = [];
      data_queues = [];
      mailboxes = [];
      messages = [];
      shared_words = [];
      spin_locks = [];
      cyclics = [];
      interrupts = [];
    }

-- The number of the body of an entry. An entry is a name only until the bodies are known: in a system that runs, as in
-- every image, each is a number, so what a name gives here does not matter.
abbrev pub body_of : Entry → ℕ
body_of (entry.Body b) = b
body_of (entry.Named n) = 0

abbrev pub no_name : Name
no_name = name_from []

-- what is in a table at a place, or a default; the calls look only where something is
abbrev pub found : {A : Type 0} → A → Option A → A
found a (Some b) = b
found a None = a

abbrev pub task_config : SystemTables → ℕ → TaskConfig
task_config sys t =
    found
    (record {
      name = no_name;
      activated = false;
      exinf = pos 0;
      entry = entry.Body 0;
      priority = 1;
      stack = 1;
      processor = 0;
      only = false;
    })
    (slice_get sys.tasks t)

abbrev pub semaphore_config : SystemTables → ℕ → SemaphoreConfig
semaphore_config sys s =
    found (record { name = no_name; order = Fifo; initial = 0; most = 1 }) (slice_get sys.semaphores s)

abbrev pub flag_config : SystemTables → ℕ → FlagConfig
flag_config sys f =
    found (record { name = no_name; order = Fifo; multiple = false; clears = false; initial = 0 })
    (slice_get sys.flags f)

abbrev pub data_queue_config : SystemTables → ℕ → DataQueueConfig
data_queue_config sys d = found (record { name = no_name; order = Fifo; capacity = 0 }) (slice_get sys.data_queues d)

abbrev pub mailbox_config : SystemTables → ℕ → MailboxConfig
mailbox_config sys mailbox =
    found (record { name = no_name; order = Fifo; message_order = Fifo; most = 1 }) (slice_get sys.mailboxes mailbox)

abbrev pub message_config : SystemTables → ℕ → MessageConfig
message_config sys message = found (record { name = no_name; priority = 1 }) (slice_get sys.messages message)

abbrev pub cyclic_config : SystemTables → ℕ → CyclicConfig
cyclic_config sys c =
    found
    (record {
      name = no_name;
      started = false;
      exinf = pos 0;
      entry = entry.Body 0;
      period = 1;
      phase = 0;
      processor = 0;
    })
    (slice_get sys.cyclics c)

-- the handler that is defined for an interrupt number, if any
abbrev pub defined_for : ℕ → List InterruptConfig → Option InterruptConfig
defined_for number [] = None
defined_for number (i ∷ is) = if nat_eq i.number number then Some i else defined_for number is

-- the handler of the interrupt at a place: its number is one more
abbrev pub interrupt_config : SystemTables → ℕ → Option InterruptConfig
interrupt_config sys i = defined_for (i + 1) sys.interrupts

-- the processors of a system that a task may be assigned to: all, or the initial one alone
abbrev pub is_allowed_by : Bool → ℕ → ℕ → Bool
is_allowed_by true initial p = nat_eq p initial
is_allowed_by false initial p = true

-- The objects that the static APIs make, each of the fields of its API; some also of the class in which it stands.
use Rattle.std.specs.Prelude.{ℕ, ◌%◌, ◌/◌, ℤ, List, Bool, true, false, nat_eq}
use Rattle.fmp_base.specs.declared.systems.CyclicConfig.{CyclicConfig}
use Rattle.fmp_base.specs.declared.systems.DataQueueConfig.{DataQueueConfig}
use Rattle.fmp_base.specs.declared.systems.Entry.TheVariants as entry
use Rattle.fmp_base.specs.declared.systems.FlagConfig.{FlagConfig}
use Rattle.fmp_base.specs.declared.systems.InterruptConfig.{InterruptConfig}
use Rattle.fmp_base.specs.declared.systems.MailboxConfig.{MailboxConfig}
use Rattle.fmp_base.specs.declared.systems.MessageConfig.{MessageConfig}
use Rattle.fmp_base.specs.declared.systems.QueueOrder.{QueueOrder}
use Rattle.fmp_base.specs.declared.systems.QueueOrder.TheVariants.{Fifo, Priority}
use Rattle.fmp_base.specs.declared.systems.SemaphoreConfig.{SemaphoreConfig}
use Rattle.fmp_base.specs.declared.systems.SharedWordConfig.{SharedWordConfig}
use Rattle.fmp_base.specs.declared.systems.SpinLockConfig.{SpinLockConfig}
use Rattle.fmp_base.specs.declared.systems.TaskConfig.{TaskConfig}
use Rattle.fmp_cfgparse.specs.declared.places.ClassProcessors.{ClassProcessors}
use Rattle.fmp_cfgparse.specs.Trees.{FieldTree}
use Rattle.fmp_cfgparse.specs.Values.{number_at, name_at, held}

-- an attribute has this bit
abbrev pub has_bit : ℕ → ℤ → Bool
has_bit bit a = nat_eq ((held 255 a / bit) % 2) 1

abbrev pub order_by : Bool → QueueOrder
order_by true = Priority
order_by false = Fifo

abbrev pub task : ClassProcessors → List FieldTree → TaskConfig
task c f =
    record {
      name = name_at f 0;
      activated = has_bit 2 (number_at f 1);
      exinf = number_at f 2;
      entry = entry.Named (name_at f 3);
      priority = held 255 (number_at f 4);
      stack = held 4294967295 (number_at f 5);
      processor = c.processor;
      only = c.only;
    }

abbrev pub semaphore : List FieldTree → SemaphoreConfig
semaphore f =
    record {
      name = name_at f 0;
      order = order_by (has_bit 1 (number_at f 1));
      initial = held 65535 (number_at f 2);
      most = held 65535 (number_at f 3);
    }

abbrev pub flag : List FieldTree → FlagConfig
flag f =
    record {
      name = name_at f 0;
      order = order_by (has_bit 1 (number_at f 1));
      multiple = has_bit 2 (number_at f 1);
      clears = has_bit 4 (number_at f 1);
      initial = held 65535 (number_at f 2);
    }

abbrev pub data_queue : List FieldTree → DataQueueConfig
data_queue f =
    record {
      name = name_at f 0;
      order = order_by (has_bit 1 (number_at f 1));
      capacity = held 255 (number_at f 2);
    }

abbrev pub mailbox : List FieldTree → MailboxConfig
mailbox f =
    record {
      name = name_at f 0;
      order = order_by (has_bit 1 (number_at f 1));
      message_order = order_by (has_bit 2 (number_at f 1));
      most = held 255 (number_at f 2);
    }

abbrev pub message : List FieldTree → MessageConfig
message f =
    record {
      name = name_at f 0;
      priority = held 255 (number_at f 1);
    }

abbrev pub shared_word : List FieldTree → SharedWordConfig
shared_word f =
    record {
      name = name_at f 0;
      initial = number_at f 1;
    }

abbrev pub spin_lock : List FieldTree → SpinLockConfig
spin_lock f =
    record {
      name = name_at f 0;
    }

abbrev pub cyclic : ClassProcessors → List FieldTree → CyclicConfig
cyclic c f =
    record {
      name = name_at f 0;
      started = has_bit 2 (number_at f 1);
      exinf = number_at f 2;
      entry = entry.Named (name_at f 3);
      period = held 4294967295 (number_at f 4);
      phase = held 4294967295 (number_at f 5);
      processor = c.processor;
    }

abbrev pub interrupt : ClassProcessors → List FieldTree → InterruptConfig
interrupt c f =
    record {
      number = held 255 (number_at f 0);
      entry = entry.Named (name_at f 2);
      processor = c.processor;
    }

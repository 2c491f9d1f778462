-- The rows of the tables of an image: their fields in order, and the rules that they keep.
use Rattle.std.specs.Prelude.{◌≡◌, ℕ, ℤ, ◌+◌, ◌-◌, ◌*◌, ◌/◌, ◌%◌, List, Option, Some, None, Ok, Err, Bool, true, false}
use Rattle.std.specs.Prelude.{◌&&◌, ◌||◌, ◌==◌, nat_le, if◌then◌else◌, slice_get}
use Rattle.fmp_base.specs.Names.{name_text, name_from}
use Rattle.fmp_base.specs.Systems.{body_of}
use Rattle.fmp_base.specs.declared.systems.QueueOrder.{QueueOrder}
use Rattle.fmp_base.specs.declared.systems.QueueOrder.TheVariants.{Fifo, Priority}
use Rattle.fmp_base.specs.declared.systems.Entry.TheVariants as entry
use Rattle.fmp_base.specs.declared.systems.TaskConfig.{TaskConfig}
use Rattle.fmp_base.specs.declared.systems.SemaphoreConfig.{SemaphoreConfig}
use Rattle.fmp_base.specs.declared.systems.FlagConfig.{FlagConfig}
use Rattle.fmp_base.specs.declared.systems.DataQueueConfig.{DataQueueConfig}
use Rattle.fmp_base.specs.declared.systems.MailboxConfig.{MailboxConfig}
use Rattle.fmp_base.specs.declared.systems.MessageConfig.{MessageConfig}
use Rattle.fmp_base.specs.declared.systems.SharedWordConfig.{SharedWordConfig}
use Rattle.fmp_base.specs.declared.systems.SpinLockConfig.{SpinLockConfig}
use Rattle.fmp_base.specs.declared.systems.CyclicConfig.{CyclicConfig}
use Rattle.fmp_base.specs.declared.systems.InterruptConfig.{InterruptConfig}
use Rattle.fmp_image_bytes.specs.declared.fault.ImageFault.TheVariants as fault
use Rattle.fmp_image_bytes.specs.declared.heads.BodyKind.{BodyKind}
use Rattle.fmp_image_bytes.specs.declared.heads.BodyKind.TheVariants as kind
use Rattle.fmp_image_bytes.specs.declared.heads.BodyHead.{BodyHead}
use Rattle.fmp_image_bytes.specs.declared.keys.Key.{Key}
use Rattle.fmp_image_bytes.specs.declared.keys.Key.TheVariants as key
use Rattle.fmp_image_bytes.specs.Fields.{Field, ◌>>=◌, ◌⊗◌, byte, short, long, word, text, in_range}
use Rattle.fmp_image_bytes.specs.Keys.{is_name}
use Rattle.fmp_image_bytes.specs.Ranges.{cyclic_numbers, mailbox_rules, semaphore_rules, task_numbers}

-- what rows refer to: the version, the number of processors, and what is said of each body
pub record RowContext : Type 0 where
  pub version : ℕ
  pub processors : ℕ
  pub heads : List BodyHead

abbrev pub context_of : (version processors : ℕ) → List BodyHead → RowContext
context_of version processors heads = record { version = version; processors = processors; heads = heads }

-- How rows of a table stand in fields: their layout, the fields of a row, the rules, the row of fields that keep them,
-- and its key.
pub record RowForm (F A : Type 0) : Type 1 where
  pub layout : Field F
  pub fields : A → F
  pub keeps : RowContext → F → Bool
  pub make : F → A
  pub key_of : A → Key

-- a row: what it is made of are its own fields
abbrev pub row : {F A : Type 0} → RowForm F A → RowContext → Field A
row form context = record {
  fits =
      λ a. form.layout.fits (form.fields a)
      × (form.keeps context (form.fields a) ≡ true) × (form.make (form.fields a) ≡ a);
  spell = λ a. form.layout.spell (form.fields a);
  read =
      λ bytes. form.layout.read bytes >>= λ f. if form.keeps context f.0 then Ok (form.make f.0, f.1) else Err
      fault.Table;
}

-- a number that stands for true, and 0 for false
abbrev pub bit : Bool → ℕ → ℕ
bit true n = n
bit false n = 0

-- TA_TFIFO and TA_TPRI, and likewise TA_MFIFO and TA_MPRI, in units of the attribute
abbrev pub order_bit : QueueOrder → ℕ → ℕ
order_bit Fifo n = 0
order_bit Priority n = n

abbrev pub order_of : Bool → QueueOrder
order_of true = Priority
order_of false = Fifo

abbrev pub is_task : BodyKind → Bool
is_task kind.Task = true
is_task kind.Handler = false

abbrev pub is_handler : BodyKind → Bool
is_handler kind.Task = false
is_handler kind.Handler = true

-- a body that is there is one of a task, and the stack holds four bytes for each of its operands
abbrev pub is_task_body : Option BodyHead → (stack : ℕ) → Bool
is_task_body None stack = false
is_task_body (Some head) stack = is_task head.kind && nat_le (4 * head.depth) stack

-- a body that is there is one of a handler
abbrev pub is_handler_body : Option BodyHead → Bool
is_handler_body None = false
is_handler_body (Some head) = is_handler head.kind

-- name, attributes, exinf, body, priority, stack, processor from 1, and 1 if that is the only one allowed
abbrev pub TaskFields : Type 0
TaskFields = List ℕ × (ℕ × (ℤ × (ℕ × (ℕ × (ℕ × (ℕ × ℕ))))))

abbrev pub task_rules : RowContext → (attributes body priority stack processor only : ℕ) → Bool
task_rules context attributes body priority stack processor only =
    task_numbers attributes priority stack only && is_task_body (slice_get context.heads body) stack
    && in_range 1 context.processors processor

abbrev pub task_form : RowForm TaskFields TaskConfig
task_form = record {
  layout = text ⊗ byte ⊗ word ⊗ byte ⊗ byte ⊗ long ⊗ byte ⊗ byte;
  fields = λ t. (
    name_text t.name,
    (
      bit t.activated 2,
      (
        t.exinf,
        (body_of t.entry, (t.priority, (t.stack, (t.processor + 1, bit t.only 1)))),
      ),
    ),
  );
  keeps = λ context. λ (name, (attributes, (exinf, (body, (priority, (stack, (processor, only))))))).
      is_name context.version name && task_rules context attributes body priority stack processor only;
  make = λ (name, (attributes, (exinf, (body, (priority, (stack, (processor, only))))))). record {
    name = name_from name;
    activated = attributes == 2;
    exinf = exinf;
    entry = entry.Body body;
    priority = priority;
    stack = stack;
    processor = processor - 1;
    only = only == 1;
  };
  key_of = λ t. key.Name t.name;
}

-- name, attributes, initial and greatest count
abbrev pub SemaphoreFields : Type 0
SemaphoreFields = List ℕ × (ℕ × (ℕ × ℕ))

abbrev pub semaphore_form : RowForm SemaphoreFields SemaphoreConfig
semaphore_form = record {
  layout = text ⊗ byte ⊗ short ⊗ short;
  fields = λ s. (name_text s.name, (order_bit s.order 1, (s.initial, s.most)));
  keeps = λ context. λ (name, (attributes, (initial, most))).
      is_name context.version name && semaphore_rules attributes initial most;
  make = λ (name, (attributes, (initial, most))). record {
    name = name_from name;
    order = order_of (attributes == 1);
    initial = initial;
    most = most;
  };
  key_of = λ s. key.Name s.name;
}

-- name, attributes, initial pattern
abbrev pub FlagFields : Type 0
FlagFields = List ℕ × (ℕ × ℕ)

-- TA_TPRI is 1, TA_WMUL 2, TA_CLR 4
abbrev pub flag_form : RowForm FlagFields FlagConfig
flag_form = record {
  layout = text ⊗ byte ⊗ short;
  fields = λ f. (name_text f.name, (order_bit f.order 1 + bit f.multiple 2 + bit f.clears 4, f.initial));
  keeps = λ context. λ (name, (attributes, initial)). is_name context.version name && nat_le attributes 7;
  make = λ (name, (attributes, initial)). record {
    name = name_from name;
    order = order_of (attributes % 2 == 1);
    multiple = attributes / 2 % 2 == 1;
    clears = nat_le 4 attributes;
    initial = initial;
  };
  key_of = λ f. key.Name f.name;
}

-- name, attributes, capacity
abbrev pub DataQueueFields : Type 0
DataQueueFields = List ℕ × (ℕ × ℕ)

abbrev pub data_queue_form : RowForm DataQueueFields DataQueueConfig
data_queue_form = record {
  layout = text ⊗ byte ⊗ byte;
  fields = λ d. (name_text d.name, (order_bit d.order 1, d.capacity));
  keeps = λ context. λ (name, (attributes, capacity)). is_name context.version name && nat_le attributes 1;
  make = λ (name, (attributes, capacity)). record {
    name = name_from name;
    order = order_of (attributes == 1);
    capacity = capacity;
  };
  key_of = λ d. key.Name d.name;
}

-- name, attributes, greatest priority of a message
abbrev pub MailboxFields : Type 0
MailboxFields = List ℕ × (ℕ × ℕ)

-- TA_TPRI is 1, TA_MPRI 2
abbrev pub mailbox_form : RowForm MailboxFields MailboxConfig
mailbox_form = record {
  layout = text ⊗ byte ⊗ byte;
  fields = λ m. (name_text m.name, (order_bit m.order 1 + order_bit m.message_order 2, m.most));
  keeps = λ context. λ (name, (attributes, most)). is_name context.version name && mailbox_rules attributes most;
  make = λ (name, (attributes, most)). record {
    name = name_from name;
    order = order_of (attributes % 2 == 1);
    message_order = order_of (nat_le 2 attributes);
    most = most;
  };
  key_of = λ m. key.Name m.name;
}

-- name, priority
abbrev pub MessageFields : Type 0
MessageFields = List ℕ × ℕ

abbrev pub message_form : RowForm MessageFields MessageConfig
message_form = record {
  layout = text ⊗ byte;
  fields = λ m. (name_text m.name, m.priority);
  keeps = λ context. λ (name, priority). is_name context.version name && in_range 1 16 priority;
  make = λ (name, priority). record { name = name_from name; priority = priority };
  key_of = λ m. key.Name m.name;
}

-- name, initial value
abbrev pub SharedWordFields : Type 0
SharedWordFields = List ℕ × ℤ

abbrev pub shared_word_form : RowForm SharedWordFields SharedWordConfig
shared_word_form = record {
  layout = text ⊗ word;
  fields = λ w. (name_text w.name, w.initial);
  keeps = λ context. λ (name, initial). is_name context.version name;
  make = λ (name, initial). record { name = name_from name; initial = initial };
  key_of = λ w. key.Name w.name;
}

-- name
abbrev pub spin_lock_form : RowForm (List ℕ) SpinLockConfig
spin_lock_form = record {
  layout = text;
  fields = λ l. name_text l.name;
  keeps = λ context. λ name. is_name context.version name;
  make = λ name. record { name = name_from name };
  key_of = λ l. key.Name l.name;
}

-- name, attributes, exinf, body, period, phase, processor from 1
abbrev pub CyclicFields : Type 0
CyclicFields = List ℕ × (ℕ × (ℤ × (ℕ × (ℕ × (ℕ × ℕ)))))

abbrev pub cyclic_rules : RowContext → (attributes body period phase processor : ℕ) → Bool
cyclic_rules context attributes body period phase processor =
    cyclic_numbers attributes period phase && is_handler_body (slice_get context.heads body)
    && in_range 1 context.processors processor

abbrev pub cyclic_form : RowForm CyclicFields CyclicConfig
cyclic_form = record {
  layout = text ⊗ byte ⊗ word ⊗ byte ⊗ long ⊗ long ⊗ byte;
  fields =
      λ c. (name_text c.name, (bit c.started 2, (c.exinf, (body_of c.entry, (c.period, (c.phase, c.processor + 1))))));
  keeps = λ context. λ (name, (attributes, (exinf, (body, (period, (phase, processor)))))).
      is_name context.version name && cyclic_rules context attributes body period phase processor;
  make = λ (name, (attributes, (exinf, (body, (period, (phase, processor)))))). record {
    name = name_from name;
    started = attributes == 2;
    exinf = exinf;
    entry = entry.Body body;
    period = period;
    phase = phase;
    processor = processor - 1;
  };
  key_of = λ c. key.Name c.name;
}

-- number, body, processor from 1
abbrev pub InterruptFields : Type 0
InterruptFields = ℕ × (ℕ × ℕ)

abbrev pub interrupt_rules : RowContext → (number body processor : ℕ) → Bool
interrupt_rules context number body processor =
    in_range 1 32 number && is_handler_body (slice_get context.heads body) && in_range 1 context.processors processor

abbrev pub interrupt_form : RowForm InterruptFields InterruptConfig
interrupt_form = record {
  layout = byte ⊗ byte ⊗ byte;
  fields = λ i. (i.number, (body_of i.entry, i.processor + 1));
  keeps = λ context. λ (number, (body, processor)). interrupt_rules context number body processor;
  make = λ (number, (body, processor)). record {
    number = number;
    entry = entry.Body body;
    processor = processor - 1;
  };
  key_of = λ i. key.Interrupt i.number;
}

-- The system of an image is in range.
use Rattle.std.proofs.Common.{◌≡◌, ℕ, ◌+◌, ◌<◌, ◌≤◌, nat_le, Bool, true, false, if◌then◌else◌, List, [], ◌∷◌, length}
use Rattle.std.proofs.Common.{arith}
use Rattle.std.proofs.lemmas.Bool.{leb-true}
use Rattle.std.specs.List.{AllByRecursion}
use Rattle.fmp_base.specs.declared.systems.TaskConfig.{TaskConfig}
use Rattle.fmp_base.specs.declared.systems.SemaphoreConfig.{SemaphoreConfig}
use Rattle.fmp_base.specs.declared.systems.FlagConfig.{FlagConfig}
use Rattle.fmp_base.specs.declared.systems.DataQueueConfig.{DataQueueConfig}
use Rattle.fmp_base.specs.declared.systems.MailboxConfig.{MailboxConfig}
use Rattle.fmp_base.specs.declared.systems.MessageConfig.{MessageConfig}
use Rattle.fmp_base.specs.declared.systems.CyclicConfig.{CyclicConfig}
use Rattle.fmp_base.specs.declared.systems.InterruptConfig.{InterruptConfig}
use Rattle.fmp_base.specs.Ranges.{Lies, IsTable, IsInRange, TaskInRange, SemaphoreInRange, FlagInRange}
use Rattle.fmp_base.specs.Ranges.{DataQueueInRange, MailboxInRange, MessageInRange, CyclicInRange, InterruptInRange}
use Rattle.fmp_image_bytes.specs.Images.{ImageTables, KeepRules, IsImage}
use Rattle.fmp_image_bytes.specs.Fields.{in_range}
use Rattle.fmp_image_bytes.specs.Versions.{queue_limit_of}
use Rattle.fmp_image_bytes.specs.Rows.{RowContext, context_of, RowForm, row, task_form, semaphore_form, flag_form}
use Rattle.fmp_image_bytes.specs.Rows.{data_queue_form, mailbox_form, message_form, cyclic_form, interrupt_form}
use Rattle.fmp_image_bytes.proofs.Names.{and_true}

lies : (low high n : ℕ) → in_range low high n ≡ true → Lies low high n
lies low high n h = let p = and_true _ _ h in record { least = leb-true low n p.0; most = leb-true n high p.1 }

-- processors stand in a row from 1
inside : (processors processor : ℕ) → in_range 1 processors (processor + 1) ≡ true → processor < processors
inside processors processor h = let most = (lies 1 processors (processor + 1) h).most in omega arith

-- ---- rows

task_in_range : (context : RowContext) (t : TaskConfig) → (row task_form context).fits t
    → TaskInRange context.processors t
task_in_range context t h =
    let rules = and_true _ _ (and_true _ _ h.1).1 in
    let numbers = and_true _ _ (and_true _ _ (and_true _ _ rules.0).0).0 in
    record {
      priority = lies 1 16 t.priority (and_true _ _ numbers.0).1;
      stack = lies 1 65536 t.stack numbers.1;
      processor = inside context.processors t.processor rules.1;
    }

semaphore_in_range : (context : RowContext) (s : SemaphoreConfig) → (row semaphore_form context).fits s
    → SemaphoreInRange s
semaphore_in_range context s h =
    let rules = and_true _ _ (and_true _ _ h.1).1 in
    let most = h.0.1.1.1 in
    record {
      initial = leb-true s.initial s.most rules.1;
      most = record { least = leb-true 1 s.most (and_true _ _ rules.0).1; most = omega arith };
    }

flag_in_range : (context : RowContext) (f : FlagConfig) → (row flag_form context).fits f → FlagInRange f
flag_in_range context f h = let initial = h.0.1.1 in record { initial = omega arith }

data_queue_in_range : (context : RowContext) (d : DataQueueConfig) → (row data_queue_form context).fits d
    → DataQueueInRange d
data_queue_in_range context d h = let capacity = h.0.1.1 in record { capacity = omega arith }

mailbox_in_range : (context : RowContext) (b : MailboxConfig) → (row mailbox_form context).fits b → MailboxInRange b
mailbox_in_range context b h = record { most = lies 1 16 b.most (and_true _ _ (and_true _ _ h.1).1).1 }

message_in_range : (context : RowContext) (m : MessageConfig) → (row message_form context).fits m → MessageInRange m
message_in_range context m h = record { priority = lies 1 16 m.priority (and_true _ _ h.1).1 }

cyclic_in_range : (context : RowContext) (c : CyclicConfig) → (row cyclic_form context).fits c
    → CyclicInRange context.processors c
cyclic_in_range context c h =
    let rules = and_true _ _ (and_true _ _ h.1).1 in
    let numbers = and_true _ _ (and_true _ _ rules.0).0 in
    record {
      period = lies 1 1073741824 c.period (and_true _ _ numbers.0).1;
      phase = leb-true c.phase 1073741824 numbers.1;
      processor = inside context.processors c.processor rules.1;
    }

interrupt_in_range : (context : RowContext) (i : InterruptConfig) → (row interrupt_form context).fits i
    → InterruptInRange context.processors i
interrupt_in_range context i h =
    let rules = and_true _ _ h.1 in
    record {
      number = lies 1 32 i.number (and_true _ _ rules.0).0;
      processor = inside context.processors i.processor rules.1;
    }

-- ---- tables

at_most : {F A : Type 0} (form : RowForm F A) (context : RowContext) (rows : List A) → KeepRules form context rows
    → length rows ≤ 255
at_most form context rows h = let count = h.count in omega arith

pub all_map : {A : Type 0} {P Q : A → Type 0} → ((a : A) → P a → Q a) → (rows : List A) → AllByRecursion P rows
    → AllByRecursion Q rows
all_map f [] h = tt
all_map f (a ∷ rows) h = (f a h.0, all_map f rows h.1)

table_in_range : {F A : Type 0} (form : RowForm F A) (context : RowContext) (P : A → Type 0)
    → ((a : A) → (row form context).fits a → P a) → (rows : List A) → KeepRules form context rows → IsTable P rows
table_in_range form context P each rows h = record {
  count = at_most form context rows h;
  each = all_map each rows h.each;
}

limit_in_range : (limit version : ℕ) → limit ≡ queue_limit_of version → Lies 1 255 limit
limit_in_range limit version e = chosen limit (nat_le 3 version) e where
  chosen : (limit : ℕ) (is_new : Bool) → limit ≡ (if is_new then 255 else 1) → Lies 1 255 limit
  chosen limit true e = rw e (record { least = omega arith; most = omega arith })
  chosen limit false e = rw e (record { least = omega arith; most = omega arith })

pub image_in_range : (i : ImageTables) → IsImage i → IsInRange i.system
image_in_range i h =
    let s = i.system in
    let p = s.processors in
    let context = context_of i.version p i.heads in
    record {
      processors = lies 1 8 p h.processors;
      queue_limit = limit_in_range s.queue_limit i.version h.queue_limit;
      tasks = table_in_range task_form context (TaskInRange p) (task_in_range context) s.tasks h.tasks;
      semaphores = table_in_range semaphore_form context SemaphoreInRange
          (semaphore_in_range context) s.semaphores h.semaphores;
      flags = table_in_range flag_form context FlagInRange (flag_in_range context) s.flags h.flags;
      data_queues = table_in_range data_queue_form context DataQueueInRange
          (data_queue_in_range context) s.data_queues h.data_queues;
      mailboxes = table_in_range mailbox_form context MailboxInRange (mailbox_in_range context) s.mailboxes h.mailboxes;
      messages = table_in_range message_form context MessageInRange (message_in_range context) s.messages h.messages;
      shared_words = at_most _ context s.shared_words h.shared_words;
      spin_locks = at_most _ context s.spin_locks h.spin_locks;
      cyclics = table_in_range cyclic_form context (CyclicInRange p) (cyclic_in_range context) s.cyclics h.cyclics;
      interrupts = table_in_range interrupt_form context (InterruptInRange p)
          (interrupt_in_range context) s.interrupts h.interrupts;
    }

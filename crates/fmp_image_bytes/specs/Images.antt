-- Images: what they hold, and the one spelling of each.
use Rattle.std.specs.Prelude.{◌≡◌, ◌<◌, ℕ, List, [], ◌∷◌, ◌++◌, length, map, Result, Ok, Err, true}
use Rattle.std.specs.List.{AllByRecursion}
use Rattle.fmp_base.specs.declared.systems.TaskConfig.{TaskConfig}
use Rattle.fmp_base.specs.declared.systems.SemaphoreConfig.{SemaphoreConfig}
use Rattle.fmp_base.specs.declared.systems.FlagConfig.{FlagConfig}
use Rattle.fmp_base.specs.declared.systems.DataQueueConfig.{DataQueueConfig}
use Rattle.fmp_base.specs.declared.systems.MailboxConfig.{MailboxConfig}
use Rattle.fmp_base.specs.declared.systems.MessageConfig.{MessageConfig}
use Rattle.fmp_base.specs.declared.systems.SharedWordConfig.{SharedWordConfig}
use Rattle.fmp_base.specs.declared.systems.SpinLockConfig.{SpinLockConfig}
use Rattle.fmp_base.specs.declared.systems.CyclicConfig.{CyclicConfig}
use Rattle.fmp_base.specs.declared.systems.InterruptConfig.{InterruptConfig}
use Rattle.fmp_base.specs.Systems.{SystemTables}
use Rattle.fmp_instructions.specs.Instructions.{BodyTables}
use Rattle.fmp_image_bytes.specs.declared.fault.ImageFault.{ImageFault}
use Rattle.fmp_image_bytes.specs.declared.fault.ImageFault.TheVariants as fault
use Rattle.fmp_image_bytes.specs.declared.heads.BodyHead.{BodyHead}
use Rattle.fmp_image_bytes.specs.declared.keys.Key.{Key}
use Rattle.fmp_image_bytes.specs.Fields.{Field, ◌>>=◌, chained}
use Rattle.fmp_image_bytes.specs.Keys.{are_new}
use Rattle.fmp_image_bytes.specs.Fields.{in_range}
use Rattle.fmp_image_bytes.specs.Header.{magic, header}
use Rattle.fmp_image_bytes.specs.Rows.{RowContext, context_of, RowForm, row, task_form, semaphore_form, flag_form}
use Rattle.fmp_image_bytes.specs.Rows.{data_queue_form, mailbox_form, message_form, shared_word_form, spin_lock_form}
use Rattle.fmp_image_bytes.specs.Rows.{cyclic_form, interrupt_form}
use Rattle.fmp_image_bytes.specs.Tables.{table}
use Rattle.fmp_image_bytes.specs.Bodies.{bodies, IsBody}
use Rattle.fmp_image_bytes.specs.Pairs.{AllPairs}
use Rattle.fmp_image_bytes.specs.Versions.{is_version, queue_limit_of}

infixr 4 ◌▹◌
-- what an image holds, as data without memory: its version, the tables of the system, and of each body what is said of
-- it and its code
pub record ImageTables : Type 0 where
  pub version : ℕ
  pub system : SystemTables
  pub heads : List BodyHead
  pub code : List BodyTables

abbrev pub image_tables : (version : ℕ) → SystemTables → List BodyHead → List BodyTables → ImageTables
image_tables version system heads code = record { version = version; system = system; heads = heads; code = code }

-- the table of a kind of rows, where these keys stand already
abbrev pub table_of : {F A : Type 0} → RowForm F A → RowContext → List Key → Field (List A)
table_of form context taken = table (row form context) form.key_of taken

-- a table, and what stands after it with its keys taken too
abbrev pub also : {F A B : Type 0} → RowForm F A → (RowContext → List Key → Field B) → RowContext → List Key
    → Field (List A × B)
also form later context taken =
    chained (table_of form context taken) (λ rows. later context (taken ++ map form.key_of rows))

abbrev pub TheLaterTables : Type 0
TheLaterTables = List MessageConfig × (List SharedWordConfig × (List SpinLockConfig × (List CyclicConfig
    × List InterruptConfig)))

abbrev pub TheTables : Type 0
TheTables = List TaskConfig × (List SemaphoreConfig × (List FlagConfig × (List DataQueueConfig × (List MailboxConfig
    × TheLaterTables))))

-- the tables from that of messages on, in order
abbrev pub later_tables : RowContext → List Key → Field TheLaterTables
later_tables = also message_form (also shared_word_form (also spin_lock_form (also cyclic_form
    (table_of interrupt_form))))

-- all tables in order
abbrev pub tables : RowContext → List Key → Field TheTables
tables = also task_form (also semaphore_form (also flag_form (also data_queue_form (also mailbox_form
    later_tables))))

abbrev pub Parts : Type 0
Parts = (List ℕ × (ℕ × ℕ)) × ((List BodyHead × List BodyTables) × TheTables)

-- an image: the header, the bodies, the tables
abbrev pub layout : Field Parts
layout = chained header (λ h. chained (bodies h.1.0) (λ b. tables (context_of h.1.0 h.1.1 b.0) []))

-- a pair, in a chain of parts that stand one after the other
pattern abbrev pub ◌▹◌ : {A B : Type 0} → A → B → A × B
a ▹ b = (a, b)

abbrev pub tables_in : SystemTables → TheTables
tables_in s =
    s.tasks ▹ s.semaphores ▹ s.flags ▹ s.data_queues ▹ s.mailboxes ▹ s.messages ▹ s.shared_words ▹ s.spin_locks
    ▹ s.cyclics ▹ s.interrupts

abbrev pub parts_of : ImageTables → Parts
parts_of i = (magic ▹ i.version ▹ i.system.processors) ▹ (i.heads ▹ i.code) ▹ tables_in i.system

-- the system of an image of a version, with this number of processors and these tables
abbrev pub system_of : (version processors : ℕ) → TheTables → SystemTables
system_of version processors
    (tasks ▹ semaphores ▹ flags ▹ data_queues ▹ mailboxes ▹ messages ▹ shared_words ▹ spin_locks ▹ cyclics
    ▹ interrupts) =
    record {
      processors = processors;
      queue_limit = queue_limit_of version;
      tasks = tasks;
      semaphores = semaphores;
      flags = flags;
      data_queues = data_queues;
      mailboxes = mailboxes;
      messages = messages;
      shared_words = shared_words;
      spin_locks = spin_locks;
      cyclics = cyclics;
      interrupts = interrupts;
    }

-- the image of parts
abbrev pub image_of : Parts → ImageTables
image_of ((m ▹ version ▹ processors) ▹ (heads ▹ code) ▹ tables) =
    image_tables version (system_of version processors tables) heads code

-- the bytes of an image
unfoldable pub spelling : ImageTables → List ℕ
spelling i = layout.spell (parts_of i)

abbrev pub all_read : {A : Type 0} → A × List ℕ → Result A ImageFault
all_read (a, []) = Ok a
all_read (a, (b ∷ bs)) = Err fault.Trailing

-- the image that bytes spell, or their first fault
unfoldable pub image_at : List ℕ → Result ImageTables ImageFault
image_at bytes = do
  parts ← layout.read bytes
  all_read (image_of parts.0, parts.1)

-- the rows of a table, at most 255, keep the rules of their kind
pub record KeepRules {F A : Type 0} (form : RowForm F A) (context : RowContext) (rows : List A) : Type 0 where
  pub count : length rows < 256
  pub each : AllByRecursion (row form context).fits rows

-- what may stand only once: the names of all objects, and the numbers of interrupts
abbrev pub keys_of : SystemTables → List Key
keys_of s =
    map task_form.key_of s.tasks ++ (map semaphore_form.key_of s.semaphores ++ (map flag_form.key_of s.flags
    ++ (map data_queue_form.key_of s.data_queues ++ (map mailbox_form.key_of s.mailboxes
    ++ (map message_form.key_of s.messages ++ (map shared_word_form.key_of s.shared_words
    ++ (map spin_lock_form.key_of s.spin_locks ++ (map cyclic_form.key_of s.cyclics
    ++ map interrupt_form.key_of s.interrupts))))))))

-- the rules of an image
pub record IsImage (i : ImageTables) : Type 0 where
  pub version : is_version i.version ≡ true
  pub processors : in_range 1 8 i.system.processors ≡ true
  pub queue_limit : i.system.queue_limit ≡ queue_limit_of i.version
  pub count : length i.code < 256
  pub bodies : AllPairs (IsBody i.version) i.heads i.code
  pub tasks : KeepRules task_form (context_of i.version i.system.processors i.heads) i.system.tasks
  pub semaphores : KeepRules semaphore_form (context_of i.version i.system.processors i.heads) i.system.semaphores
  pub flags : KeepRules flag_form (context_of i.version i.system.processors i.heads) i.system.flags
  pub data_queues : KeepRules data_queue_form (context_of i.version i.system.processors i.heads) i.system.data_queues
  pub mailboxes : KeepRules mailbox_form (context_of i.version i.system.processors i.heads) i.system.mailboxes
  pub messages : KeepRules message_form (context_of i.version i.system.processors i.heads) i.system.messages
  pub shared_words : KeepRules shared_word_form (context_of i.version i.system.processors i.heads) i.system.shared_words
  pub spin_locks : KeepRules spin_lock_form (context_of i.version i.system.processors i.heads) i.system.spin_locks
  pub cyclics : KeepRules cyclic_form (context_of i.version i.system.processors i.heads) i.system.cyclics
  pub interrupts : KeepRules interrupt_form (context_of i.version i.system.processors i.heads) i.system.interrupts
  pub once : are_new [] (keys_of i.system) ≡ true

-- bytes spell an image
pub record Spells (i : ImageTables) (bytes : List ℕ) : Type 0 where
  pub lawful : IsImage i
  pub spelled : bytes ≡ spelling i

-- the rows of a table, at most 255, have room in their fields
pub record HasRoomFor {F A : Type 0} (form : RowForm F A) (rows : List A) : Type 0 where
  pub count : length rows < 256
  pub each : AllByRecursion (λ a. form.layout.fits (form.fields a)) rows

-- the same of all tables
pub record CanPut (s : SystemTables) : Type 0 where
  pub tasks : HasRoomFor task_form s.tasks
  pub semaphores : HasRoomFor semaphore_form s.semaphores
  pub flags : HasRoomFor flag_form s.flags
  pub data_queues : HasRoomFor data_queue_form s.data_queues
  pub mailboxes : HasRoomFor mailbox_form s.mailboxes
  pub messages : HasRoomFor message_form s.messages
  pub shared_words : HasRoomFor shared_word_form s.shared_words
  pub spin_locks : HasRoomFor spin_lock_form s.spin_locks
  pub cyclics : HasRoomFor cyclic_form s.cyclics
  pub interrupts : HasRoomFor interrupt_form s.interrupts

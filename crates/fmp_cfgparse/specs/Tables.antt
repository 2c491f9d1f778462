-- The tables that a configuration describes: the names of their objects, and the rules that they keep.
use Rattle.std.specs.Prelude.{◌≡◌, ℕ, ◌≤◌, FitsSigned, List, [], ◌∷◌, ◌++◌, length, map, None, Bool, true, false, ◌&&◌}
use Rattle.std.specs.Prelude.{nat_eq}
use Rattle.std.specs.Int.{w32}
use Rattle.std.specs.List.{AllByRecursion, IsDistinct, list_all}
use Rattle.std.specs.Str.{bytes_eq}
use Rattle.fmp_base.specs.declared.names.Name.{Name}
use Rattle.fmp_base.specs.declared.systems.Entry.{Entry}
use Rattle.fmp_base.specs.declared.systems.Entry.TheVariants as entry
use Rattle.fmp_base.specs.declared.systems.TaskConfig.{TaskConfig}
use Rattle.fmp_base.specs.declared.systems.SemaphoreConfig.{SemaphoreConfig}
use Rattle.fmp_base.specs.declared.systems.FlagConfig.{FlagConfig}
use Rattle.fmp_base.specs.declared.systems.DataQueueConfig.{DataQueueConfig}
use Rattle.fmp_base.specs.declared.systems.MailboxConfig.{MailboxConfig}
use Rattle.fmp_base.specs.declared.systems.MessageConfig.{MessageConfig}
use Rattle.fmp_base.specs.declared.systems.SharedWordConfig.{SharedWordConfig}
use Rattle.fmp_base.specs.declared.systems.SpinLockConfig.{SpinLockConfig}
use Rattle.fmp_base.specs.declared.systems.CyclicConfig.{CyclicConfig}
use Rattle.fmp_base.specs.declared.systems.InterruptConfig.{InterruptConfig}
use Rattle.fmp_base.specs.declared.systems.TheConstants.{QUEUE_LIMIT}
use Rattle.fmp_base.specs.Names.{name_text, name_from}
use Rattle.fmp_base.specs.Ranges.{IsInRange}
use Rattle.fmp_base.specs.Systems.{SystemTables}
use Rattle.fmp_lex.specs.Cutting.{word_kind}
use Rattle.fmp_base.specs.Words.{is_letter, is_word}

-- a letter or `_`, then letters, digits and `_`
abbrev pub is_identifier : List ℕ → Bool
is_identifier [] = false
is_identifier (b ∷ bs) = is_letter b && list_all is_word bs

-- An object's name: its text is an identifier of at most 31 bytes and no word of the texts, and the bytes after it are
-- 0.
pub record IsObjectName (n : Name) : Type 0 where
  pub canonical : name_from (name_text n) ≡ n
  pub short : length (name_text n) ≤ 31
  pub identifier : is_identifier (name_text n) ≡ true
  pub unreserved : word_kind (name_text n) ≡ None

-- an entry that is given by a name
abbrev pub IsNamed : Entry → Type 0
IsNamed (entry.Named n) = Unit {0}
IsNamed (entry.Body b) = ⊥

-- what an object of a kind has beside its name and its ranges: words of 32 bits, and the name of its body
pub record TaskConfigured (t : TaskConfig) : Type 0 where
  pub exinf : FitsSigned w32 t.exinf
  pub entry : IsNamed t.entry

pub record SharedWordConfigured (w : SharedWordConfig) : Type 0 where
  pub initial : FitsSigned w32 w.initial

pub record CyclicConfigured (c : CyclicConfig) : Type 0 where
  pub exinf : FitsSigned w32 c.exinf
  pub entry : IsNamed c.entry

pub record InterruptConfigured (i : InterruptConfig) : Type 0 where
  pub entry : IsNamed i.entry

-- the names of all objects, table after table
abbrev pub task_name : TaskConfig → Name
task_name t = t.name

abbrev pub semaphore_name : SemaphoreConfig → Name
semaphore_name s = s.name

abbrev pub flag_name : FlagConfig → Name
flag_name f = f.name

abbrev pub data_queue_name : DataQueueConfig → Name
data_queue_name d = d.name

abbrev pub mailbox_name : MailboxConfig → Name
mailbox_name m = m.name

abbrev pub message_name : MessageConfig → Name
message_name m = m.name

abbrev pub shared_word_name : SharedWordConfig → Name
shared_word_name w = w.name

abbrev pub spin_lock_name : SpinLockConfig → Name
spin_lock_name l = l.name

abbrev pub cyclic_name : CyclicConfig → Name
cyclic_name c = c.name

abbrev pub object_names : SystemTables → List Name
object_names t =
    map task_name t.tasks ++ (map semaphore_name t.semaphores ++ (map flag_name t.flags
    ++ (map data_queue_name t.data_queues ++ (map mailbox_name t.mailboxes ++ (map message_name t.messages
    ++ (map shared_word_name t.shared_words ++ (map spin_lock_name t.spin_locks ++ map cyclic_name t.cyclics)))))))

abbrev pub interrupt_number : InterruptConfig → ℕ
interrupt_number i = i.number

-- two names of the same text
abbrev pub same_name : Name → Name → Bool
same_name a b = bytes_eq (name_text a) (name_text b)

-- The rules of a configuration: its tables are in range, its queue limit is that of every configuration, and no name
-- and no interrupt number stands twice.
pub record IsConfiguration (t : SystemTables) : Type 0 where
  pub ranges : IsInRange t
  pub queue_limit : t.queue_limit ≡ QUEUE_LIMIT
  pub names : AllByRecursion IsObjectName (object_names t)
  pub distinct : IsDistinct same_name (object_names t)
  pub tasks : AllByRecursion TaskConfigured t.tasks
  pub shared_words : AllByRecursion SharedWordConfigured t.shared_words
  pub cyclics : AllByRecursion CyclicConfigured t.cyclics
  pub interrupts : AllByRecursion InterruptConfigured t.interrupts
  pub numbers : IsDistinct nat_eq (map interrupt_number t.interrupts)

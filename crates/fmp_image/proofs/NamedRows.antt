-- The objects of each table have a name.
use Rattle.std.proofs.Common.{List, [], ◌∷◌, ◌++◌, map}
use Rattle.std.specs.List.{AllByRecursion}
use Rattle.fmp_base.specs.declared.names.Name.{Name}
use Rattle.fmp_base.specs.Systems.{SystemTables}
use Rattle.fmp_cfgparse.specs.Tables.{IsObjectName, object_names, task_name, semaphore_name, flag_name, data_queue_name}
use Rattle.fmp_cfgparse.specs.Tables.{mailbox_name, message_name, shared_word_name, spin_lock_name, cyclic_name}

abbrev pub AreNamed : {A : Type 0} → (A → Name) → List A → Type 0
AreNamed name rows = AllByRecursion (λ a. IsObjectName (name a)) rows

pub record HasNames (t : SystemTables) : Type 0 where
  pub tasks : AreNamed task_name t.tasks
  pub semaphores : AreNamed semaphore_name t.semaphores
  pub flags : AreNamed flag_name t.flags
  pub data_queues : AreNamed data_queue_name t.data_queues
  pub mailboxes : AreNamed mailbox_name t.mailboxes
  pub messages : AreNamed message_name t.messages
  pub shared_words : AreNamed shared_word_name t.shared_words
  pub spin_locks : AreNamed spin_lock_name t.spin_locks
  pub cyclics : AreNamed cyclic_name t.cyclics

-- the names of a table, and those of the tables behind it
first_table : {A : Type 0} (name : A → Name) (rows : List A) (rest : List Name)
    → AllByRecursion IsObjectName (map name rows ++ rest) → AreNamed name rows × AllByRecursion IsObjectName rest
first_table name [] rest h = (tt, h)
first_table name (a ∷ rows) rest h = let behind = first_table name rows rest h.1 in ((h.0, behind.0), behind.1)

last_table : {A : Type 0} (name : A → Name) (rows : List A) → AllByRecursion IsObjectName (map name rows)
    → AreNamed name rows
last_table name [] h = tt
last_table name (a ∷ rows) h = (h.0, last_table name rows h.1)

pub has_names : (t : SystemTables) → AllByRecursion IsObjectName (object_names t) → HasNames t
has_names t h =
    let tasks = first_table task_name t.tasks _ h in
    let semaphores = first_table semaphore_name t.semaphores _ tasks.1 in
    let flags = first_table flag_name t.flags _ semaphores.1 in
    let data_queues = first_table data_queue_name t.data_queues _ flags.1 in
    let mailboxes = first_table mailbox_name t.mailboxes _ data_queues.1 in
    let messages = first_table message_name t.messages _ mailboxes.1 in
    let shared_words = first_table shared_word_name t.shared_words _ messages.1 in
    let spin_locks = first_table spin_lock_name t.spin_locks _ shared_words.1 in
    record {
      tasks = tasks.0;
      semaphores = semaphores.0;
      flags = flags.0;
      data_queues = data_queues.0;
      mailboxes = mailboxes.0;
      messages = messages.0;
      shared_words = shared_words.0;
      spin_locks = spin_locks.0;
      cyclics = last_table cyclic_name t.cyclics spin_locks.1;
    }

-- How many of each a system has, and how many words its data queues hold.
use Rattle.std.specs.Prelude.{◌≡◌, ◌≤◌, ℕ, ℤ, List, [], get_or, length}
use Rattle.fmp_base.specs.Meanings.{World}
use Rattle.fmp_base.specs.States.{KernelState}
use Rattle.fmp_base.specs.Systems.{SystemTables, data_queue_config}

-- a state has as many of each as its system
pub record IsOfSystem (sys : SystemTables) (s : KernelState) : Type 0 where
  pub tasks : length s.tasks ≡ length sys.tasks
  pub processors : length s.processors ≡ sys.processors
  pub cyclics : length s.due_times ≡ length sys.cyclics
  pub semaphores : length s.semaphores ≡ length sys.semaphores
  pub flags : length s.flags ≡ length sys.flags
  pub data_queues : length s.data_queues ≡ length sys.data_queues
  pub mailboxes : length s.mailboxes ≡ length sys.mailboxes
  pub shared_words : length s.shared_words ≡ length sys.shared_words
  pub pending_cyclics : length s.pending_cyclics ≡ length sys.cyclics
  pub pending_interrupts : length s.pending_interrupts ≡ 32

-- and so has its world, with the context of each task
pub record IsWorldOfSystem {C : Type 0} (sys : SystemTables) (w : World C) : Type 0 where
  pub state : IsOfSystem sys w.state
  pub contexts : length w.contexts.tasks ≡ length sys.tasks

-- none of a system's data queues holds more words than its capacity
abbrev pub AreWithinCapacity : SystemTables → (queues : List (List ℤ)) → Type 0
AreWithinCapacity sys queues = (d : ℕ) → length (get_or queues d []) ≤ (data_queue_config sys d).capacity

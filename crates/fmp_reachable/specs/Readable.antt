-- Worlds whose fields can be told: what holds of every world of a kernel between events.
use Rattle.std.specs.Prelude.{◌≡◌, ℕ, ◌≤◌, [], List, length, get_or}
use Rattle.fmp_base.specs.Meanings.{World}
use Rattle.fmp_base.specs.States.{KernelState}
use Rattle.fmp_base.specs.Systems.{SystemTables, data_queue_config}
use Rattle.fmp_instructions.specs.declared.instructions.MachineContext.{MachineContext}
use Rattle.fmp_instructions.specs.Instructions.{BodyTables}
use Rattle.fmp_reachable.specs.Rooms.{IsWithinRooms}
use Rattle.fmp_reachable.specs.Worlds.{IsRegularWorld}

-- a state has as many of each as its system, and no data queue holds more than its capacity
pub record IsSized (sys : SystemTables) (s : KernelState) : Type 0 where
  pub tasks : length s.tasks ≡ length sys.tasks
  pub processors : length s.processors ≡ sys.processors
  pub cyclics : length s.due_times ≡ length sys.cyclics
  pub semaphores : length s.semaphores ≡ length sys.semaphores
  pub flags : length s.flags ≡ length sys.flags
  pub data_queues : length s.data_queues ≡ length sys.data_queues
  pub mailboxes : length s.mailboxes ≡ length sys.mailboxes
  pub shared_words : length s.shared_words ≡ length sys.shared_words
  pub pending_cyclics : length s.pending_cyclics ≡ length sys.cyclics
  pub pending_interrupts : length s.pending_interrupts ≡ 32
  pub words : (d : ℕ) → length (get_or s.data_queues d []) ≤ (data_queue_config sys d).capacity

-- what holds of every world of a kernel of this system and code between events
pub record IsReadable (sys : SystemTables) (bodies : List BodyTables) (w : World MachineContext) : Type 0 where
  pub regular : IsRegularWorld sys w
  pub rooms : IsWithinRooms sys bodies w
  pub sizes : IsSized sys w.state

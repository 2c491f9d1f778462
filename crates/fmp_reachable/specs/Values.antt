-- What a row tells of objects and of pending handlers.
use Rattle.std.specs.Prelude.{ℕ, ◌≡◌, ◌<◌, pos, [], length, get_or, Some, None, true, false}
use Rattle.fmp_base.specs.declared.systems.InterruptConfig.{InterruptConfig}
use Rattle.fmp_base.specs.Queues.{first_of}
use Rattle.fmp_base.specs.States.{KernelState}
use Rattle.fmp_base.specs.Systems.{SystemTables, interrupt_config}
use Rattle.fmp_base.specs.Ticks.{is_pending}
use Rattle.fmp_ring.specs.Orders.{IsOrder}
use Rattle.fmp_ring.specs.RingLists.{is_in}
use Rattle.fmp_reachable.specs.Behind.{mailbox_at, message_behind}
use Rattle.fmp_tasks.specs.Holding.{messages_holding}
use Rattle.fmp_reachable.specs.Numbers.{bit, place, unsigned}

-- no message is queued twice: the messages are below a bound
pub record AreMessagesApart (messages : ℕ) (s : KernelState) : Type 0 where
  pub once : (x : ℕ) → IsOrder messages (mailbox_at s x)
  pub own : (x g : ℕ) → is_in g (mailbox_at s x) ≡ true → messages_holding s.mailboxes g ≡ mailbox_at s x

-- no interrupt without a handler is pending
pub record IsUndefinedQuiet (sys : SystemTables) (s : KernelState) : Type 0 where
  pub each : (i : ℕ) → interrupt_config sys i ≡ None → is_pending s.pending_interrupts i ≡ false

-- two states of one system have as many of each
pub record SameSizes (s u : KernelState) : Type 0 where
  pub tasks : length s.tasks ≡ length u.tasks
  pub processors : length s.processors ≡ length u.processors
  pub cyclics : length s.due_times ≡ length u.due_times
  pub semaphores : length s.semaphores ≡ length u.semaphores
  pub flags : length s.flags ≡ length u.flags
  pub data_queues : length s.data_queues ≡ length u.data_queues
  pub mailboxes : length s.mailboxes ≡ length u.mailboxes
  pub shared_words : length s.shared_words ≡ length u.shared_words
  pub pending_cyclics : length s.pending_cyclics ≡ length u.pending_cyclics
  pub pending_interrupts : length s.pending_interrupts ≡ length u.pending_interrupts

-- the same is told of each object, and of each handler that may be pending
pub record SameValueNumbers (sys : SystemTables) (s u : KernelState) : Type 0 where
  pub semaphores : (i : ℕ) → i < length s.semaphores → get_or s.semaphores i 0 ≡ get_or u.semaphores i 0
  pub flags : (i : ℕ) → i < length s.flags → get_or s.flags i 0 ≡ get_or u.flags i 0
  pub lengths :
      (d : ℕ) → d < length s.data_queues → length (get_or s.data_queues d []) ≡ length (get_or u.data_queues d [])
  pub words :
      (d : ℕ) → d < length s.data_queues → (i : ℕ) → i < length (get_or s.data_queues d []) →
      unsigned (get_or (get_or s.data_queues d []) i (pos 0)) ≡ unsigned (get_or (get_or u.data_queues d []) i (pos 0))
  pub first_messages :
      (x : ℕ) → x < length s.mailboxes → place (first_of (mailbox_at s x)) ≡ place (first_of (mailbox_at u x))
  pub behind : (g : ℕ) → g < length sys.messages → place (message_behind s g) ≡ place (message_behind u g)
  pub shared_words :
      (i : ℕ) → i < length s.shared_words →
      unsigned (get_or s.shared_words i (pos 0)) ≡ unsigned (get_or u.shared_words i (pos 0))
  pub pending_cyclics :
      (c : ℕ) → c < length s.pending_cyclics → bit (is_pending s.pending_cyclics c)
      ≡ bit (is_pending u.pending_cyclics c)
  pub pending_interrupts :
      (i : ℕ) (c : InterruptConfig) → interrupt_config sys i ≡ Some c →
      bit (is_pending s.pending_interrupts i) ≡ bit (is_pending u.pending_interrupts i)

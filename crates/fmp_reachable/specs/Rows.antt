-- States of which a row of numbers tells the same.
use Rattle.std.specs.Prelude.{ℕ, ◌≡◌, ◌<◌, length, Option, None, slice_get}
use Rattle.fmp_base.specs.States.{KernelState, processor_at, task_at}
use Rattle.fmp_base.specs.Systems.{SystemTables, found}
use Rattle.fmp_reachable.specs.Behind.{IsOrderly, task_behind}
use Rattle.fmp_reachable.specs.Numbers.{IsAhead, SameProcessorNumbers, SameTaskNumbers, place, ticks_to}
use Rattle.fmp_reachable.specs.Values.{AreMessagesApart, IsUndefinedQuiet, SameSizes, SameValueNumbers}

-- the time at which cyclic handler c is due, if any
abbrev pub due_at : KernelState → ℕ → Option ℕ
due_at s c = found None (slice_get s.due_times c)

-- no time of a state lies before its clock
pub record AreAhead (s : KernelState) : Type 0 where
  pub tasks : (t : ℕ) → t < length s.tasks → IsAhead s.clock (task_at s.tasks t).deadline
  pub cyclics : (c : ℕ) → c < length s.due_times → IsAhead s.clock (due_at s c)

-- the same is told of each task, each processor and each cyclic handler
pub record SameNumbers (sys : SystemTables) (s u : KernelState) : Type 0 where
  pub tasks : (t : ℕ) → t < length s.tasks → SameTaskNumbers s.clock u.clock (task_at s.tasks t) (task_at u.tasks t)
  pub behind : (t : ℕ) → t < length s.tasks → place (task_behind sys s t) ≡ place (task_behind sys u t)
  pub processors : (p : ℕ) → p < length s.processors → SameProcessorNumbers (processor_at s p) (processor_at u p)
  pub due_times : (c : ℕ) → c < length s.due_times → ticks_to s.clock (due_at s c) ≡ ticks_to u.clock (due_at u c)

-- what holds of every state of a kernel: the order and the mailboxes have each at most once, no time lies before the
-- clock, and no interrupt without a handler is pending
pub record IsRegular (sys : SystemTables) (s : KernelState) : Type 0 where
  pub orderly : IsOrderly s
  pub ahead : AreAhead s
  pub messages : AreMessagesApart (length sys.messages) s
  pub quiet : IsUndefinedQuiet sys s

-- a row tells the same of both states, of one system
pub record SameRow (sys : SystemTables) (s u : KernelState) : Type 0 where
  pub sizes : SameSizes s u
  pub numbers : SameNumbers sys s u
  pub values : SameValueNumbers sys s u

-- What the tables hold, what is true of them, and what the calls on them leave alone.
use Rattle.std.specs.Prelude.{◌≡◌, ℕ, ◌+◌, ◌*◌, ◌≤◌, ◌<◌, ◌^◌, List, Option, map, length}
use Rattle.std.specs.Global.{Vec}
use Rattle.std.specs.Vec.{vec_capacity}
use Rattle.fmp_base.specs.declared.calls.Answer.{Answer}
use Rattle.fmp_base.specs.declared.events.Line.{Line}
use Rattle.fmp_base.specs.declared.states.Handler.{Handler}
use Rattle.fmp_base.specs.declared.states.Handler.TheVariants as handler
use Rattle.fmp_base.specs.declared.states.TaskBlock.{TaskBlock}
use Rattle.fmp_base.specs.Outcomes.{CallOutcome}
use Rattle.fmp_base.specs.Ranges.{IsInRange}
use Rattle.fmp_base.specs.States.{KernelState, Progress}
use Rattle.fmp_base.specs.Systems.{SystemTables, tables_of}
use Rattle.fmp_ready.specs.ReadyLists.{AreExact}
use Rattle.fmp_ring.specs.Orders.{IsOrder}
use Rattle.fmp_ring.specs.RingLists.{RingLists}
use Rattle.fmp_spin.specs.Pending.{handler_processors}
use Rattle.fmp_ticks.specs.Times.{NoneBefore}
use Rattle.fmp_waitq.specs.declared.queues.WaitQueues.{WaitQueues}
use Rattle.fmp_waitq.specs.WaitLists.{count_of_lists}
use Rattle.fmp_tasks.specs.declared.kernel_state.KernelState.TheInside.{Inside}
use Rattle.fmp_tasks.specs.Marks.{AreAtRest}
use Rattle.fmp_tasks.specs.Homes.{Kept, BlocksFit, Standing, home, order_with_head, counts_of, waits_of}

-- the tables of the system, which never change, and the state of the kernel
pub record TablesView : Type 0 where
  pub system : SystemTables
  pub state : KernelState

abbrev pub tables_view : Inside → TablesView
tables_view a =
    record {
      system = tables_of a.system;
      state = record {
        tasks = a.blocks.items;
        order = a.order;
        semaphores = a.semaphores.items;
        flags = a.flags.items;
        data_queues = a.words.items;
        mailboxes = a.mailboxes.lists;
        shared_words = a.shared_words.items;
        processors = a.processors;
        due_times = a.cyclics;
        pending_cyclics = a.pending.cyclics;
        pending_interrupts = a.pending.interrupts;
        clock = a.clock;
      };
    }

-- a system has such a handler: the place of an interrupt is below 32
abbrev pub HasHandler : SystemTables → Handler → Type 0
HasHandler sys (handler.Interrupt i) = i < 32
HasHandler sys (handler.Cyclic c) = c < length sys.cyclics

-- the queues are parts of the order, with a bit for each ready queue that is not empty, and the deadlines are those of
-- the blocks
pub record Sound (sys : SystemTables) (tasks : List TaskBlock) (order ready : List ℕ) (waits : WaitQueues)
    (rings : RingLists) (deadlines : List (Option ℕ)) : Type 0 where
  pub configs : length sys.tasks ≡ length tasks
  pub blocks : BlocksFit sys tasks
  pub distinct : IsOrder (length tasks) order
  pub standing : Standing tasks order
  pub processors : length ready ≡ sys.processors
  pub exact : AreExact ready rings
  pub own_waits : waits ≡ waits_of sys
  pub nodes : rings.nodes ≡ length tasks
  pub heads : length rings.lists ≡ sys.processors * 16 + count_of_lists (counts_of sys)
  pub kept : Kept (home waits) (order_with_head waits sys) tasks order rings.lists
  pub deadlines_kept : deadlines ≡ map (λ x. x.deadline) tasks

-- the system is in range, the tasks and queues agree, each deadline and each due time lies after the clock, there is a
-- value for each object, and a processor that is not marked has nothing to settle
pub record IsWhole (a : Inside) : Type 0 where
  pub system : IsInRange (tables_of a.system)
  pub later : NoneBefore (a.clock + 1) a.deadlines
  pub tasks : Sound (tables_of a.system) a.blocks.items a.order a.ready a.waits a.rings a.deadlines
  pub semaphores : length a.semaphores.items ≡ length a.system.semaphores.items
  pub flags : length a.flags.items ≡ length a.system.flags.items
  pub data_queues : length a.words.items ≡ length a.system.data_queues.items
  pub mailboxes : length a.mailboxes.lists ≡ length a.system.mailboxes.items
  pub messages : a.mailboxes.nodes ≡ length a.system.messages.items
  pub shared_words : length a.shared_words.items ≡ length a.system.shared_words.items
  pub processors : length a.processors ≡ a.system.processors
  pub cyclics : length a.cyclics ≡ length a.system.cyclics.items
  pub due_later : NoneBefore (a.clock + 1) a.cyclics
  pub handlers : a.pending.processors ≡ handler_processors (tables_of a.system)
  pub pending_cyclics : length a.pending.cyclics ≡ length a.system.cyclics.items
  pub pending_interrupts : length a.pending.interrupts ≡ 32
  pub clock : a.clock ≤ 2 ^ 31
  pub at_rest : AreAtRest a.marks a.processors a.rings a.pending

-- the state, and the lines of what happened on the way to it
abbrev pub progress : TablesView → List Line → Progress
progress h lines = record { state = h.state; lines = lines }

-- what a call answered, and its progress
abbrev pub outcome : Answer → TablesView → List Line → CallOutcome
outcome answer h lines = record { answer = answer; progress = progress h lines }

-- what every call leaves alone: the tables of the system, and the clock
pub record SameShape (old new : TablesView) : Type 0 where
  pub system : new.system ≡ old.system
  pub clock : new.state.clock ≡ old.state.clock

-- what every call that adds lines leaves alone: that, and the room that the list of lines has
pub record SameShapeAndRoom (old new : TablesView) (before after : Vec Line) : Type 0 where
  pub shape : SameShape old new
  pub room : vec_capacity after ≡ vec_capacity before

-- Sound worlds: what holds of every world of a kernel between events, and what each event keeps.
use Rattle.std.specs.Prelude.{◌≡◌, ◌+◌, ℕ, [], ◌∷◌, List, Option, Some, None, Bool, true, false, length, slice_get}
use Rattle.fmp_base.specs.declared.bodies.Held.{Held}
use Rattle.fmp_base.specs.declared.bodies.Held.TheVariants.{Goes, Awaits}
use Rattle.fmp_base.specs.declared.states.Phase.{Phase}
use Rattle.fmp_base.specs.declared.states.TaskBlock.{TaskBlock}
use Rattle.fmp_base.specs.Meanings.{World, context_at}
use Rattle.fmp_base.specs.States.{KernelState, task_at}
use Rattle.fmp_base.specs.Steps.{Reaction, Nothing, Did, Kept}
use Rattle.fmp_base.specs.Systems.{SystemTables, found, interrupt_config}
use Rattle.fmp_base.specs.TaskCalls.{is_dormant}
use Rattle.fmp_base.specs.Ticks.{is_pending}
use Rattle.fmp_instructions.specs.declared.instructions.MachineContext.{MachineContext}
use Rattle.fmp_instructions.specs.Instructions.{BodyTables}
use Rattle.fmp_ring.specs.Orders.{IsOrder}
use Rattle.fmp_ring.specs.RingLists.{is_in, is_linked}
use Rattle.fmp_tasks.specs.Homes.{Standing, is_waiting}
use Rattle.fmp_worlds.specs.Settled.{IsSettledWorld}
use Rattle.fmp_reachable.specs.Numbers.{IsAhead}
use Rattle.fmp_reachable.specs.Rooms.{IsWithinRooms}
use Rattle.fmp_reachable.specs.Sizes.{AreWithinCapacity}

-- a dormant task has no deadline and is not suspended, and no deadline is below the bound
pub record IsFine (low : ℕ) (phase : Phase) (suspended : Bool) (deadline : Option ℕ) : Type 0 where
  pub rest : is_dormant phase ≡ true → deadline ≡ None
  pub calm : is_dormant phase ≡ true → suspended ≡ false
  pub ahead : IsAhead low deadline

abbrev pub IsFineBlock : ℕ → TaskBlock → Type 0
IsFineBlock low x = IsFine low x.phase x.suspended x.deadline

-- the blocks are fine, and the order has each task that stands there, once
pub record AreFine (low : ℕ) (tasks : List TaskBlock) (order : List ℕ) : Type 0 where
  pub each : (t : ℕ) → IsFineBlock low (task_at tasks t)
  pub distinct : IsOrder (length tasks) order
  pub standing : Standing tasks order

-- no time is below the bound
pub record AreAllAhead (low : ℕ) (times : List (Option ℕ)) : Type 0 where
  pub each : (c : ℕ) → IsAhead low (found None (slice_get times c))

-- no interrupt is pending that has no handler
pub record IsQuiet (sys : SystemTables) (pending : List Bool) : Type 0 where
  pub each : (i : ℕ) → interrupt_config sys i ≡ None → is_pending pending i ≡ false

-- how many there are of each
pub record Sizes : Type 0 where
  pub tasks : ℕ
  pub processors : ℕ
  pub cyclics : ℕ
  pub semaphores : ℕ
  pub flags : ℕ
  pub data_queues : ℕ
  pub mailboxes : ℕ
  pub shared_words : ℕ
  pub pending_cyclics : ℕ
  pub pending_interrupts : ℕ

-- in a state
abbrev pub sizes : KernelState → Sizes
sizes s =
    record {
      tasks = length s.tasks;
      processors = length s.processors;
      cyclics = length s.due_times;
      semaphores = length s.semaphores;
      flags = length s.flags;
      data_queues = length s.data_queues;
      mailboxes = length s.mailboxes;
      shared_words = length s.shared_words;
      pending_cyclics = length s.pending_cyclics;
      pending_interrupts = length s.pending_interrupts;
    }

-- by its system
abbrev pub sizes_of : SystemTables → Sizes
sizes_of sys =
    record {
      tasks = length sys.tasks;
      processors = sys.processors;
      cyclics = length sys.cyclics;
      semaphores = length sys.semaphores;
      flags = length sys.flags;
      data_queues = length sys.data_queues;
      mailboxes = length sys.mailboxes;
      shared_words = length sys.shared_words;
      pending_cyclics = length sys.cyclics;
      pending_interrupts = 32;
    }

-- each list has each of its numbers once, and none of those after it has one of them
abbrev pub AreApart : ℕ → List (List ℕ) → Type 0
AreApart n [] = Unit {0}
AreApart n (l ∷ ls) = IsOrder n l × ((g : ℕ) → is_in g l ≡ true → is_linked g ls ≡ false) × AreApart n ls

-- what holds of the state between events
pub record IsSteady (sys : SystemTables) (s : KernelState) : Type 0 where
  pub blocks : AreFine (s.clock + 1) s.tasks s.order
  pub cyclics : AreAllAhead (s.clock + 1) s.due_times
  pub messages : AreApart (length sys.messages) s.mailboxes
  pub words : AreWithinCapacity sys s.data_queues
  pub quiet : IsQuiet sys s.pending_interrupts
  pub sizes : sizes s ≡ sizes_of sys

-- what is kept of a body, if anything, awaits a reply
abbrev pub GoesNot : {C : Type 0} → Option (Held C) → Type 0
GoesNot None = Unit {0}
GoesNot (Some (Goes c)) = ⊥
GoesNot (Some (Awaits c)) = Unit {0}

-- each task that waits awaits a reply
pub record AreHeld {C : Type 0} (tasks : List TaskBlock) (cs : List (Option (Held C))) : Type 0 where
  pub each : (t : ℕ) → is_waiting (task_at tasks t).phase ≡ true → GoesNot (context_at cs t)

-- between events, with as many contexts as the system has tasks and processors
pub record IsSteadyWorld {C : Type 0} (sys : SystemTables) (w : World C) : Type 0 where
  pub state : IsSteady sys w.state
  pub held : AreHeld w.state.tasks w.contexts.tasks
  pub tasks : length w.contexts.tasks ≡ length sys.tasks
  pub handlers : length w.contexts.handlers ≡ sys.processors

-- what each world has that setup and events reach
pub record IsReached {C : Type 0} (sys : SystemTables) (w : World C) : Type 0 where
  pub steady : IsSteadyWorld sys w
  pub settled : IsSettledWorld sys w

-- a sound world of this system and code, with all that is kept of bodies within their rooms
pub record IsSound (sys : SystemTables) (bodies : List BodyTables) (w : World MachineContext) : Type 0 where
  pub reached : IsReached sys w
  pub rooms : IsWithinRooms sys bodies w

-- what an event leaves is sound
abbrev pub LeavesSound : SystemTables → (bodies : List BodyTables) → Reaction MachineContext → Type 0
LeavesSound sys bodies Nothing = Unit {0}
LeavesSound sys bodies (Did d) = IsSound sys bodies d.world
LeavesSound sys bodies (Kept p w) = IsSound sys bodies w

-- The state of the kernel, without the contexts of bodies, and the ways in which its parts change.
--
-- The short names in the definitions of this crate:
-- sys: the tables of the system (SystemTables)
-- s: a state of the kernel (KernelState)
-- p: a processor, by its place
-- me: the task that makes a call, by its place
-- x: the block of task me (TaskBlock); of an operator, its first operand
-- g: a state with the lines so far (Progress)
-- M: a meaning of bodies (Meaning)
-- w: a world, which is a state with the contexts of bodies (World); of a data queue, a word
-- i: the object that a call names, by its place from 0
--
-- The ends of their names:
-- _by: by the cases of its first argument, as of a phase (released_by)
-- _to: to the first task that waits, if one does (message_sent_to)
-- _in: in the state, list or world that is given (succeeds_in, priority_in)
-- _on: on processor p (settled_on); of runs, what comes after a reaction (run_on)
use Rattle.std.specs.Prelude.{ℕ, zero, suc, ◌+◌, ℤ, List, [], ◌∷◌, ◌++◌, Option, None, Bool, false, slice_get}
use Rattle.std.specs.Prelude.{slice_set, filter, not, nat_eq}
use Rattle.fmp_base.specs.declared.events.Line.{Line}
use Rattle.fmp_base.specs.declared.states.Lock.TheVariants.{Free}
use Rattle.fmp_base.specs.declared.states.Phase.TheVariants.{Dormant}
use Rattle.fmp_base.specs.declared.states.Processor.{Processor}
use Rattle.fmp_base.specs.declared.states.TaskBlock.{TaskBlock}
use Rattle.fmp_base.specs.Systems.{found}

-- What the kernel keeps. Tasks, processors and objects go by their places, from 0, in their tables.
pub record KernelState : Type 0 where
  pub tasks : List TaskBlock
  -- the tasks that are ready or waiting, in the one order of which every queue is a part
  pub order : List ℕ
  -- the count of each semaphore
  pub semaphores : List ℕ
  -- the pattern of each eventflag
  pub flags : List ℕ
  -- the words that each data queue holds, the oldest first
  pub data_queues : List (List ℤ)
  -- the messages in each mailbox, by their places, the first one first
  pub mailboxes : List (List ℕ)
  pub shared_words : List ℤ
  pub processors : List Processor
  -- for each cyclic handler the clock at which it is due, if it is started
  pub due_times : List (Option ℕ)
  pub pending_cyclics : List Bool
  -- by place: the interrupt's number is one more
  pub pending_interrupts : List Bool
  pub clock : ℕ

-- a state, and the lines of what happened on the way to it
pub record Progress : Type 0 where
  pub state : KernelState
  pub lines : List Line

abbrev pub unchanged : KernelState → Progress
unchanged s = record { state = s; lines = [] }

-- task t, or a dormant one if there is none
abbrev pub task_at : List TaskBlock → ℕ → TaskBlock
task_at tasks t =
    found
    (record {
      phase = Dormant;
      suspended = false;
      priority = 1;
      processor = 0;
      activations = 0;
      next_processor = None;
      wakeups = 0;
      deadline = None;
    })
    (slice_get tasks t)

-- the clock when n ticks from now have passed
abbrev pub clock_after : KernelState → ℕ → ℕ
clock_after s ticks = s.clock + ticks + 1

-- a processor on which nothing runs and that nothing holds
abbrev pub idle : Processor
idle = record { run = None; lock = Free; dispatch_disabled = false; handler = None }

abbrev pub processor_at : KernelState → ℕ → Processor
processor_at s p = found idle (slice_get s.processors p)

abbrev pub with_processor : KernelState → ℕ → Processor → KernelState
with_processor s p cpu = record s { processors = slice_set s.processors p cpu }

-- an order without task t
abbrev pub without : List ℕ → ℕ → List ℕ
without order t = filter (λ u. not (nat_eq u t)) order

-- task t goes to the end of an order, from wherever it is
abbrev pub to_end : List ℕ → ℕ → List ℕ
to_end order t = without order t ++ t ∷ []

-- task t becomes x, in its place
abbrev pub with_task : KernelState → ℕ → TaskBlock → KernelState
with_task s t x = record s { tasks = slice_set s.tasks t x }

-- task t becomes x, and goes to the end of the order
abbrev pub with_last : KernelState → ℕ → TaskBlock → KernelState
with_last s t x = record s { tasks = slice_set s.tasks t x; order = to_end s.order t }

-- task t becomes x, and leaves the order
abbrev pub with_removed : KernelState → ℕ → TaskBlock → KernelState
with_removed s t x = record s { tasks = slice_set s.tasks t x; order = without s.order t }

-- this many numbers, from k on
abbrev pub places_from : ℕ → ℕ → List ℕ
places_from k zero = []
places_from k (suc n) = k ∷ places_from (k + 1) n

-- The frames of a run: what setup and each event that was taken told, and the state after it.
use Rattle.std.specs.Prelude.{ℕ, ℤ, pos, List, [], ◌∷◌, Option, Some, None, Bool, length, map, get_or}
use Rattle.std.specs.List.{range_with_len}
use Rattle.fmp_base.specs.declared.events.Event.{Event}
use Rattle.fmp_base.specs.declared.events.Line.{Line}
use Rattle.fmp_base.specs.declared.events.TaskState.{TaskState}
use Rattle.fmp_base.specs.declared.states.Processor.{Processor}
use Rattle.fmp_base.specs.declared.states.TaskBlock.{TaskBlock}
use Rattle.fmp_base.specs.DataQueueCalls.{words_at}
use Rattle.fmp_base.specs.FlagCalls.{pattern_at}
use Rattle.fmp_base.specs.MailboxCalls.{messages_at}
use Rattle.fmp_base.specs.Meanings.{Meaning, World}
use Rattle.fmp_base.specs.Runs.{task_state}
use Rattle.fmp_base.specs.States.{KernelState, task_at, processor_at}
use Rattle.fmp_base.specs.Steps.{Reaction, Nothing, Did, Kept, step}
use Rattle.fmp_base.specs.Systems.{SystemTables}
use Rattle.fmp_base.specs.Ticks.{is_pending}
use Rattle.fmp_kernel.specs.KernelViews.{KernelView, view_after}
use Rattle.fmp_frames.specs.declared.frame.Frame as declared
use Rattle.fmp_frames.specs.Spinning.{spin_at}
use Rattle.fmp_why.specs.declared.obstacles.SpinWait.{SpinWait}

-- what a frame shows, without memory
pub record FrameTable : Type 0 where
  pub lines : List Line
  -- the place of the processor whose actor kept its place, if the event did that; then there are no lines
  pub kept : Option ℕ
  pub clock : ℕ
  pub states : List TaskState
  pub blocks : List TaskBlock
  pub processors : List Processor
  -- what the actors of the processors spin for: what their next runs would come to
  pub spins : List (Option SpinWait)
  pub semaphores : List ℕ
  pub flags : List ℕ
  pub data_queues : List ℕ
  pub mailboxes : List ℕ
  pub shared_words : List ℤ
  pub pending_cyclics : List Bool
  pub pending_interrupts : List Bool

-- the table that a `Frame` holds
abbrev pub table_of : declared.Frame → FrameTable
table_of f =
    record {
      lines = f.lines.items;
      kept = f.kept;
      clock = f.clock;
      states = f.states.items;
      blocks = f.blocks.items;
      processors = f.processors.items;
      spins = f.spins.items;
      semaphores = f.semaphores.items;
      flags = f.flags.items;
      data_queues = f.data_queues.items;
      mailboxes = f.mailboxes.items;
      shared_words = f.shared_words.items;
      pending_cyclics = f.pending_cyclics.items;
      pending_interrupts = f.pending_interrupts.items;
    }

-- what f says of each place below n, in order
abbrev pub each : {A : Type 0} → (ℕ → A) → ℕ → List A
each f n = map f (range_with_len 0 n)

-- how many words data queue d holds
abbrev pub word_count : KernelState → ℕ → ℕ
word_count s d = length (words_at s d)

-- how many messages are in a mailbox
abbrev pub message_count : KernelState → ℕ → ℕ
message_count s mailbox = length (messages_at s mailbox)

-- all processors
abbrev pub processors_of : SystemTables → KernelState → List Processor
processors_of sys s = each (processor_at s) sys.processors

-- the frame of an event that told these lines and left this world
abbrev pub frame_of : {C : Type 0} → SystemTables → Meaning C → (bound : ℕ) → World C → List Line → FrameTable
frame_of sys M bound w lines =
    record {
      lines = lines;
      kept = None;
      clock = w.state.clock;
      states = each (task_state w.state) (length sys.tasks);
      blocks = each (task_at w.state.tasks) (length sys.tasks);
      processors = processors_of sys w.state;
      spins = each (spin_at sys M bound w (processors_of sys w.state)) sys.processors;
      semaphores = each (λ i. get_or w.state.semaphores i 0) (length sys.semaphores);
      flags = each (pattern_at w.state) (length sys.flags);
      data_queues = each (word_count w.state) (length sys.data_queues);
      mailboxes = each (message_count w.state) (length sys.mailboxes);
      shared_words = each (λ i. get_or w.state.shared_words i (pos 0)) (length sys.shared_words);
      pending_cyclics = each (is_pending w.state.pending_cyclics) (length sys.cyclics);
      pending_interrupts = each (is_pending w.state.pending_interrupts) 32;
    }

-- the frame of an event that ran this processor and kept the place of its actor
abbrev pub kept_frame : {C : Type 0} → SystemTables → Meaning C → (bound : ℕ) → World C → Option ℕ → FrameTable
kept_frame sys M bound w ran = record (frame_of sys M bound w []) { kept = ran }

abbrev pub framed_on : {C : Type 0} → SystemTables → Meaning C → (bound : ℕ) → World C → Reaction C
    → (World C → List FrameTable) → List FrameTable
framed_on sys M bound w Nothing rest = rest w
framed_on sys M bound w (Did d) rest = frame_of sys M bound d.world d.lines ∷ rest d.world
framed_on sys M bound w (Kept p v) rest = kept_frame sys M bound v (Some p) ∷ rest v

-- the frames of the events of a run that were taken, in order
abbrev pub frames : {C : Type 0} → SystemTables → Meaning C → (bound : ℕ) → World C → List Event → List FrameTable
frames sys M bound w [] = []
frames sys M bound w (e ∷ es) = framed_on sys M bound w (step sys M bound w e) (λ v. frames sys M bound v es)

-- the frame of what came to a kernel and did this, in front of those of what comes after it
abbrev pub framed : {B C : Type 0} → (B → Meaning C) → KernelView B C → Reaction C → List FrameTable → List FrameTable
framed meaning k Nothing rest = rest
framed meaning k (Did d) rest = frame_of k.system (meaning k.body) k.bound d.world d.lines ∷ rest
framed meaning k (Kept p w) rest = kept_frame k.system (meaning k.body) k.bound w (Some p) ∷ rest

-- the frames of what comes to a kernel, in order, where this says what each does
abbrev pub frames_of_each : {B C X : Type 0} → (B → Meaning C) → (KernelView B C → X → Reaction C) → KernelView B C
    → List X → List FrameTable
frames_of_each meaning reaction k [] = []
frames_of_each meaning reaction k (x ∷ xs) =
    framed meaning k (reaction k x) (frames_of_each meaning reaction (view_after k (reaction k x)) xs)

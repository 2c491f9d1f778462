-- What is counted of the tasks of a run, frame by frame.
use Rattle.std.specs.Prelude.{ℕ, ◌+◌, ◌-◌, ◌^◌, List, [], ◌∷◌, Option, None, Some, Bool, true, false, ◌&&◌, nat_eq}
use Rattle.std.specs.Prelude.{length, min, get_or, slice_get}
use Rattle.std.specs.List.{filter}
use Rattle.fmp_base.specs.declared.codes.Er.{Er}
use Rattle.fmp_base.specs.declared.codes.Er.TheVariants as er
use Rattle.fmp_base.specs.declared.events.Line.{Line}
use Rattle.fmp_base.specs.declared.events.Line.TheVariants as line
use Rattle.fmp_base.specs.declared.events.StateWord.{StateWord}
use Rattle.fmp_base.specs.declared.events.StateWord.TheVariants as word
use Rattle.fmp_base.specs.declared.events.TaskState.{TaskState}
use Rattle.fmp_base.specs.declared.states.Caller.{Caller}
use Rattle.fmp_base.specs.declared.states.Caller.TheVariants as caller
use Rattle.fmp_base.specs.declared.states.Handler.{Handler}
use Rattle.fmp_base.specs.declared.states.Processor.{Processor}
use Rattle.fmp_why.specs.declared.obstacles.SpinWait.{SpinWait}
use Rattle.fmp_why.specs.Obstacles.{spin_of}
use Rattle.fmp_why.specs.Verdicts.{is_spin}
use Rattle.fmp_frames.specs.Frames.{FrameTable, each}
use Rattle.fmp_frames.specs.declared.counting.TaskTally.{TaskTally}
use Rattle.fmp_frames.specs.declared.tallies.Tallies.{Tallies}

abbrev pub is_task : ℕ → Caller → Bool
is_task t (caller.Task u) = nat_eq u t
is_task t (caller.Handler h) = false

-- the lines that tell of task t: that it starts
abbrev pub starts : ℕ → Line → Bool
starts t (line.Starts p u) = nat_eq u t
starts t l = false

-- that it makes a call
abbrev pub calls : ℕ → Line → Bool
calls t (line.Call p who c reply) = is_task t who
calls t l = false

-- that it makes a call at which it begins to wait
abbrev pub waits : ℕ → Line → Bool
waits t (line.Call p who c None) = is_task t who
waits t l = false

abbrev pub is_time_out : Er → Bool
is_time_out er.Tmout = true
is_time_out code = false

-- that its wait ends by the time limit
abbrev pub times_out : ℕ → Line → Bool
times_out t (line.Gets p u reply) = nat_eq u t && is_time_out reply.code
times_out t l = false

-- that it makes an event: a call, its end or a fault
abbrev pub acts : ℕ → Line → Bool
acts t (line.Call p who c reply) = is_task t who
acts t (line.End p who) = is_task t who
acts t (line.Fault p who fault) = is_task t who
acts t l = false

abbrev pub word_of : Option TaskState → Option StateWord
word_of None = None
word_of (Some shown) = Some shown.word

-- it was RUNNING before an event, and is READY after it
abbrev pub is_preempted : Option StateWord → Option StateWord → Bool
is_preempted (Some word.Running) (Some word.Ready) = true
is_preempted was is = false

abbrev pub one_if : Bool → ℕ
one_if true = 1
one_if false = 0

-- the task that a processor runs, unless a handler runs there
abbrev pub run_alone : Option Handler → Option ℕ → Option ℕ
run_alone (Some h) run = None
run_alone None run = run

abbrev pub runner_in : Option Processor → Option ℕ
runner_in None = None
runner_in (Some cpu) = run_alone cpu.handler cpu.run

-- the task whose place an event kept, if it ran this processor for that
abbrev pub keeper : Option ℕ → List Processor → Option ℕ
keeper None cpus = None
keeper (Some p) cpus = runner_in (slice_get cpus p)

abbrev pub is_keeper : ℕ → Option ℕ → Bool
is_keeper t None = false
is_keeper t (Some u) = nat_eq u t

-- n more, up to the greatest number of 32 bits
abbrev pub more : ℕ → ℕ → ℕ
more n k = min (n + k) (2 ^ 32 - 1)

-- the counts of task t after an event that told these lines, or kept the place of the first task; what is shown of the
-- tasks was the first and is the second
abbrev pub counted : ℕ → List Line → Option ℕ → (was is : List TaskState) → TaskTally → TaskTally
counted t lines kept was is x =
    record {
      starts = more x.starts (length (filter (starts t) lines));
      calls = more x.calls (length (filter (calls t) lines));
      waits = more x.waits (length (filter (waits t) lines));
      time_outs = more x.time_outs (length (filter (times_out t) lines));
      preemptions = more x.preemptions (one_if (is_preempted (word_of (slice_get was t)) (word_of (slice_get is t))));
      kept = more x.kept (one_if (is_keeper t kept));
      events = more (more x.events (length (filter (acts t) lines))) (one_if (is_keeper t kept));
    }

-- after how many events task t spun, after one more: it spins if the actor of a processor that runs it does
abbrev pub spun : ℕ → List Processor → List (Option SpinWait) → ℕ → ℕ
spun t cpus spins x = more x (one_if (is_spin (spin_of cpus spins t)))

abbrev pub nothing : TaskTally
nothing = record { starts = 0; calls = 0; waits = 0; time_outs = 0; preemptions = 0; kept = 0; events = 0 }

-- what is counted of all tasks up to an event, with what is shown of them after it
pub record Counts : Type 0 where
  pub tallies : List TaskTally
  pub shown : List TaskState
  -- after how many events each task spun
  pub spins : List ℕ
  pub events : ℕ

abbrev pub counts_of : Tallies → Counts
counts_of x =
    record { tallies = x.tallies.items; shown = x.shown.items; spins = x.spins.items; events = x.events }

abbrev pub counts_after : Counts → FrameTable → Counts
counts_after c f =
    record {
      tallies = each (λ t. counted t f.lines (keeper f.kept f.processors) c.shown f.states (get_or c.tallies t nothing))
          (length c.tallies);
      shown = f.states;
      spins = each (λ t. spun t f.processors f.spins (get_or c.spins t 0)) (length c.spins);
      events = more c.events 1;
    }

-- what setup counts, which is no event
abbrev pub first_counts : FrameTable → Counts
first_counts f =
    record {
      tallies = each (λ t. counted t f.lines None [] f.states nothing) (length f.states);
      shown = f.states;
      spins = each (λ t. spun t [] [] (get_or [] t 0)) (length f.states);
      events = 0;
    }

abbrev pub counts_after_all : Counts → List FrameTable → Counts
counts_after_all c [] = c
counts_after_all c (f ∷ fs) = counts_after_all (counts_after c f) fs

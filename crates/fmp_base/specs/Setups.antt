-- The state in which a system starts: its static APIs have been carried out, in order, on a system without objects at
-- clock 0 (uITRON 4.0, section 3.12). Only one static API does more than make its object: CRE_TSK with TA_ACT starts
-- the task. A start looks at no other object, and no object is changed once it is made, so the APIs of one table may be
-- carried out before those of another: setup is defined over the tables, the tasks in order of number, which is the
-- order of the text.
use Rattle.std.specs.Prelude.{ℕ, ◌+◌, List, [], ◌∷◌, Option, Some, None, Bool, true, false, replicate, length, map}
use Rattle.std.specs.Prelude.{if◌then◌else◌}
use Rattle.fmp_base.specs.declared.bodies.Held.{Held}
use Rattle.fmp_base.specs.declared.bodies.Held.TheVariants.{Goes}
use Rattle.fmp_base.specs.declared.states.Phase.TheVariants.{Dormant}
use Rattle.fmp_base.specs.declared.states.TaskBlock.{TaskBlock}
use Rattle.fmp_base.specs.declared.systems.CyclicConfig.{CyclicConfig}
use Rattle.fmp_base.specs.declared.systems.TaskConfig.{TaskConfig}
use Rattle.fmp_base.specs.Changes.{started}
use Rattle.fmp_base.specs.Meanings.{Meaning, Contexts}
use Rattle.fmp_base.specs.States.{KernelState, Progress, unchanged, task_at, idle, places_from}
use Rattle.fmp_base.specs.Steps.{Done, finished}
use Rattle.fmp_base.specs.Systems.{SystemTables, body_of, task_config}

-- a task that has been created and not started
abbrev pub created : TaskConfig → TaskBlock
created c =
    record {
      phase = Dormant;
      suspended = false;
      priority = c.priority;
      processor = c.processor;
      activations = 0;
      next_processor = None;
      wakeups = 0;
      deadline = None;
    }

-- a cyclic handler with TA_STA is due first one tick after its phase
abbrev pub first_due : CyclicConfig → Option ℕ
first_due c = if c.started then Some (c.phase + 1) else None

-- all objects as they are made, and no task started
abbrev pub created_state : SystemTables → KernelState
created_state sys =
    record {
      tasks = map created sys.tasks;
      order = [];
      semaphores = map (λ c. c.initial) sys.semaphores;
      flags = map (λ c. c.initial) sys.flags;
      data_queues = replicate (length sys.data_queues) [];
      mailboxes = replicate (length sys.mailboxes) [];
      shared_words = map (λ c. c.initial) sys.shared_words;
      processors = replicate sys.processors idle;
      due_times = map first_due sys.cyclics;
      pending_cyclics = replicate (length sys.cyclics) false;
      pending_interrupts = replicate 32 false;
      clock = 0;
    }

abbrev pub started_if : Bool → SystemTables → Progress → ℕ → Progress
started_if true sys g t = started sys g t (task_at g.state.tasks t)
started_if false sys g t = g

-- of these tasks, in order, those with TA_ACT start
abbrev pub all_started : SystemTables → Progress → List ℕ → Progress
all_started sys g [] = g
all_started sys g (t ∷ ts) = all_started sys (started_if (task_config sys t).activated sys g t) ts

-- the contexts at first: each task has a fresh one, and no handler runs
abbrev pub first_contexts : {C : Type 0} → SystemTables → Meaning C → Contexts (Held C)
first_contexts sys M =
    record {
      tasks = map (λ c. Some (Goes (M.start (body_of c.entry) c.exinf))) sys.tasks;
      handlers = replicate sys.processors None;
    }

-- setup: the objects are made, the tasks with TA_ACT start, and all processors settle
abbrev pub setup : {C : Type 0} → SystemTables → Meaning C → Done C
setup sys M =
    finished sys M (first_contexts sys M) []
    (all_started sys (unchanged (created_state sys)) (places_from 0 (length sys.tasks)))

-- Worlds that differ in nothing that a later event could show, but for the number of the clock.
use Rattle.std.specs.Prelude.{ℕ, ◌+◌, ◌≡◌, List, [], ◌∷◌, Option, Some, None, Bool, true, false, filter, length, not}
use Rattle.std.specs.Prelude.{nat_eq, ◌&&◌, ◌||◌}
use Rattle.fmp_base.specs.declared.states.TaskBlock.{TaskBlock}
use Rattle.fmp_base.specs.declared.states.WaitQueue.{WaitQueue}
use Rattle.fmp_base.specs.Meanings.{Contexts, World, context_at}
use Rattle.fmp_base.specs.Outcomes.{CallOutcome}
use Rattle.fmp_base.specs.Queues.{is_ready_on, waits_in, is_by_priority, order_of}
use Rattle.fmp_base.specs.States.{KernelState, Progress, task_at}
use Rattle.fmp_base.specs.Systems.{SystemTables}
use Rattle.fmp_base.specs.TaskCalls.{is_dormant}
use Rattle.fmp_worlds.specs.Settled.{IsSettled}

-- no time at either clock, or times as far from one clock as from the other
abbrev pub SameTime : (now other : ℕ) → Option ℕ → Option ℕ → Type 0
SameTime now other None None = Unit {0}
SameTime now other (Some x) (Some y) = x + other ≡ y + now
SameTime now other None (Some y) = ⊥
SameTime now other (Some x) None = ⊥

-- the times at each place are the same
abbrev pub SameTimes : (now other : ℕ) → List (Option ℕ) → List (Option ℕ) → Type 0
SameTimes now other [] [] = Unit {0}
SameTimes now other (x ∷ xs) (y ∷ ys) = SameTime now other x y × SameTimes now other xs ys
SameTimes now other [] (y ∷ ys) = ⊥
SameTimes now other (x ∷ xs) [] = ⊥

-- one task at two clocks
pub record SameBlock (now other : ℕ) (x y : TaskBlock) : Type 0 where
  pub rest : record x { deadline = None } ≡ record y { deadline = None }
  pub deadline : SameTime now other x.deadline y.deadline

abbrev pub SameBlocks : (now other : ℕ) → List TaskBlock → List TaskBlock → Type 0
SameBlocks now other [] [] = Unit {0}
SameBlocks now other (x ∷ xs) (y ∷ ys) = SameBlock now other x y × SameBlocks now other xs ys
SameBlocks now other [] (y ∷ ys) = ⊥
SameBlocks now other (x ∷ xs) [] = ⊥

-- where tasks stand one behind the other: the ready ones of a processor and priority; those that wait in a queue, and
-- where it is by priority those of one priority
pub data Place : Type 0 where
  ReadyAt : (p priority : ℕ) → Place
  WaitsAt : (q : WaitQueue) (priority : ℕ) → Place

abbrev pub stands_at : SystemTables → Place → TaskBlock → Bool
stands_at sys (ReadyAt p priority) x = is_ready_on p x && nat_eq x.priority priority
stands_at sys (WaitsAt q priority) x =
    waits_in q x && (nat_eq x.priority priority || not (is_by_priority (order_of sys q)))

-- the tasks that stand there, in order
abbrev pub standing : SystemTables → KernelState → Place → List ℕ
standing sys s c = filter (λ t. stands_at sys c (task_at s.tasks t)) s.order

-- a state without tasks, times and clock
abbrev pub untimed : KernelState → KernelState
untimed s = record s { tasks = []; order = []; due_times = []; clock = 0 }

-- the same but for the clock, and for the order of tasks that stand in no common place
pub record AlikeStates (sys : SystemTables) (s u : KernelState) : Type 0 where
  pub tasks : SameBlocks s.clock u.clock s.tasks u.tasks
  pub order : (c : Place) → standing sys s c ≡ standing sys u c
  pub due_times : SameTimes s.clock u.clock s.due_times u.due_times
  pub rest : untimed s ≡ untimed u

abbrev pub is_none : Option ℕ → Bool
is_none None = true
is_none (Some n) = false

-- dormant, with no time running: what is kept of such a task's body is not looked at before it starts
abbrev pub is_off : TaskBlock → Bool
is_off x = is_dormant x.phase && is_none x.deadline

-- the same is kept of the bodies, but for tasks that are off
pub record SameContexts {A : Type 0} (s : KernelState) (cs ds : Contexts A) : Type 0 where
  pub tasks : (t : ℕ) → is_off (task_at s.tasks t) ≡ false → context_at cs.tasks t ≡ context_at ds.tasks t
  pub handlers : cs.handlers ≡ ds.handlers
  pub long : length cs.tasks ≡ length ds.tasks

-- worlds between events, in alike states and with the same bodies
pub record Alike {C : Type 0} (sys : SystemTables) (v w : World C) : Type 0 where
  pub states : AlikeStates sys v.state w.state
  pub contexts : SameContexts v.state v.contexts w.contexts
  pub settled : IsSettled sys v.state
  pub also_settled : IsSettled sys w.state

-- two ways have come to alike states, by the same lines
pub record SameProgress (sys : SystemTables) (g i : Progress) : Type 0 where
  pub state : AlikeStates sys g.state i.state
  pub lines : g.lines ≡ i.lines

-- a call comes to the same in both states
pub record SameOutcome (sys : SystemTables) (o p : CallOutcome) : Type 0 where
  pub answer : o.answer ≡ p.answer
  pub progress : SameProgress sys o.progress p.progress

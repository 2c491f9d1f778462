-- What holds of the kernel's world between events.
use Rattle.std.specs.Prelude.{◌≡◌, ℕ, ◌<◌, Option, Some, None, false, length}
use Rattle.fmp_base.specs.declared.bodies.Held.{Held}
use Rattle.fmp_base.specs.declared.bodies.Held.TheVariants.{Goes, Awaits}
use Rattle.fmp_base.specs.declared.states.Phase.TheVariants.{Ready}
use Rattle.fmp_base.specs.Meanings.{World, context_at, context_in}
use Rattle.fmp_base.specs.ProcessorCalls.{is_cpu_locked}
use Rattle.fmp_base.specs.Settles.{pending_handler}
use Rattle.fmp_base.specs.States.{KernelState, task_at, processor_at}
use Rattle.fmp_base.specs.Systems.{SystemTables}

-- no task is run by two processors
pub record RunOnce (s : KernelState) : Type 0 where
  pub each : (t p q : ℕ) → (processor_at s p).run ≡ Some t → (processor_at s q).run ≡ Some t → p ≡ q

-- What the state is between events: the task that a processor runs is assigned to it and neither dormant nor waiting,
-- and a processor on which no handler runs, and whose CPU is not locked, has no pending handler.
pub record IsSettled (sys : SystemTables) (s : KernelState) : Type 0 where
  pub assigned : (p t : ℕ) → (processor_at s p).run ≡ Some t → (task_at s.tasks t).processor ≡ p
  pub ready : (p t : ℕ) → (processor_at s p).run ≡ Some t → (task_at s.tasks t).phase ≡ Ready
  pub begun :
      (p : ℕ) → p < length s.processors → (processor_at s p).handler ≡ None →
      is_cpu_locked (processor_at s p) ≡ false → pending_handler sys s p ≡ None

-- what is kept of a body, if anything, awaits no reply
abbrev pub AwaitsNone : {C : Type 0} → Option (Held C) → Type 0
AwaitsNone None = Unit {0}
AwaitsNone (Some (Goes c)) = Unit {0}
AwaitsNone (Some (Awaits c)) = ⊥

-- no ready task and no handler awaits a reply
pub record NoneAwaits {C : Type 0} (w : World C) : Type 0 where
  pub tasks : (t : ℕ) → (task_at w.state.tasks t).phase ≡ Ready → AwaitsNone (context_at w.contexts.tasks t)
  pub handlers : (p : ℕ) → AwaitsNone (context_in (context_at w.contexts.handlers p))

-- there is one
abbrev pub IsThere : {A : Type 0} → Option A → Type 0
IsThere None = ⊥
IsThere (Some a) = Unit {0}

-- a context is kept of each task, and of each handler that runs
pub record AreKept {C : Type 0} (sys : SystemTables) (w : World C) : Type 0 where
  pub tasks : (t : ℕ) → t < length sys.tasks → IsThere (context_at w.contexts.tasks t)
  pub handlers :
      (p : ℕ) → p < length w.contexts.handlers → IsThere (processor_at w.state p).handler →
      IsThere (context_at w.contexts.handlers p)

-- a world of this system: a block for each task, a flag for each cyclic handler, and for each processor a place for the
-- context of its handler
pub record IsWorldOf {C : Type 0} (sys : SystemTables) (w : World C) : Type 0 where
  pub tasks : length w.state.tasks ≡ length sys.tasks
  pub cyclics : length w.state.pending_cyclics ≡ length sys.cyclics
  pub handlers : length w.contexts.handlers ≡ length w.state.processors

-- What the world is between events: its state is settled, a context is kept of each body that may run, and none of
-- these awaits a reply.
pub record IsSettledWorld {C : Type 0} (sys : SystemTables) (w : World C) : Type 0 where
  pub whole : IsWorldOf sys w
  pub state : IsSettled sys w.state
  pub kept : AreKept sys w
  pub free : NoneAwaits w

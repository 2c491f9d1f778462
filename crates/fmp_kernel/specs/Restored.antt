-- What is looked at in a world that was put in place, processor by processor and task by task, to find it settled; and
-- a kernel that begins in such a world.
use Rattle.std.specs.Prelude.{◌≡◌, ℕ, ◌<◌, List, [], Option, Some, None, false, length, replicate}
use Rattle.fmp_base.specs.declared.bodies.Held.{Held}
use Rattle.fmp_base.specs.declared.states.Phase.TheVariants.{Ready}
use Rattle.fmp_base.specs.declared.states.TaskBlock.{TaskBlock}
use Rattle.fmp_base.specs.Meanings.{Contexts, context_at, context_in}
use Rattle.fmp_base.specs.ProcessorCalls.{is_cpu_locked}
use Rattle.fmp_base.specs.Settles.{pending_handler}
use Rattle.fmp_base.specs.States.{KernelState, processor_at, task_at}
use Rattle.fmp_base.specs.Systems.{SystemTables}
use Rattle.fmp_kernel.specs.KernelViews.{KernelView}
use Rattle.fmp_worlds.specs.Settled.{AwaitsNone, IsThere}

-- the task that processor p runs, if it runs one, is assigned to it and ready
abbrev pub RunsOwn : List TaskBlock → ℕ → Option ℕ → Type 0
RunsOwn tasks p None = Unit {0}
RunsOwn tasks p (Some t) = ((task_at tasks t).processor ≡ p) × ((task_at tasks t).phase ≡ Ready)

-- processor p is as between events, by itself and by what is kept of its handler
pub record IsSettledOn {C : Type 0} (sys : SystemTables) (s : KernelState) (cs : Contexts (Held C)) (p : ℕ)
    : Type 0 where
  pub own : RunsOwn s.tasks p (processor_at s p).run
  pub begun :
      (processor_at s p).handler ≡ None → is_cpu_locked (processor_at s p) ≡ false → pending_handler sys s p ≡ None
  pub kept : IsThere (processor_at s p).handler → IsThere (context_at cs.handlers p)
  pub free : AwaitsNone (context_in (context_at cs.handlers p))

-- so it is with all of them
pub record AreSettledOn {C : Type 0} (sys : SystemTables) (s : KernelState) (cs : Contexts (Held C)) : Type 0 where
  pub each : (p : ℕ) → p < length s.processors → IsSettledOn sys s cs p

-- a context is kept of task t, and awaits no reply if the task is ready
pub record IsKeptOf {C : Type 0} (s : KernelState) (cs : Contexts (Held C)) (t : ℕ) : Type 0 where
  pub kept : IsThere (context_at cs.tasks t)
  pub free : (task_at s.tasks t).phase ≡ Ready → AwaitsNone (context_at cs.tasks t)

-- so it is with all of them
pub record AreKeptOf {C : Type 0} (sys : SystemTables) (s : KernelState) (cs : Contexts (Held C)) : Type 0 where
  pub each : (t : ℕ) → t < length sys.tasks → IsKeptOf s cs t

-- the clock is 0, no event has been done or taken, and there are no lines
pub record HasBegun {B C : Type 0} (k : KernelView B C) : Type 0 where
  pub clock : k.world.state.clock ≡ 0
  pub done : k.done ≡ 0
  pub taken : k.taken ≡ 0
  pub stamps : k.stamps ≡ replicate k.system.processors 0
  pub lines : k.lines ≡ []

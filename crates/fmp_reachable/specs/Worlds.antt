-- Worlds of which a row tells the same.
use Rattle.std.specs.Prelude.{ℕ, ◌≡◌, length, Option, Some, None, true, false}
use Rattle.fmp_base.specs.declared.bodies.Held.{Held}
use Rattle.fmp_base.specs.declared.bodies.Held.TheVariants.{Goes, Awaits}
use Rattle.fmp_base.specs.declared.states.Phase.{Phase}
use Rattle.fmp_base.specs.declared.states.Phase.TheVariants.{Ready, Waiting}
use Rattle.fmp_base.specs.Meanings.{World, context_at, kept_context}
use Rattle.fmp_base.specs.States.{task_at}
use Rattle.fmp_base.specs.Systems.{SystemTables}
use Rattle.fmp_base.specs.TaskCalls.{is_dormant}
use Rattle.fmp_worlds.specs.Settled.{IsSettled}
use Rattle.fmp_reachable.specs.Rows.{IsRegular}

-- of a task of this phase: while it waits it awaits a reply, and while it is ready it awaits none
abbrev pub IsHeldBy : {C : Type 0} → Phase → Option (Held C) → Type 0
IsHeldBy (Waiting c) (Some (Goes d)) = ⊥
IsHeldBy Ready (Some (Awaits d)) = ⊥
IsHeldBy _ _ = Unit {0}

-- what holds of every world of a kernel between events
pub record IsRegularWorld {C : Type 0} (sys : SystemTables) (w : World C) : Type 0 where
  pub state : IsRegular sys w.state
  pub settled : IsSettled sys w.state
  pub held : (t : ℕ) → IsHeldBy (task_at w.state.tasks t).phase (context_at w.contexts.tasks t)
  pub at_rest : (t : ℕ) → is_dormant (task_at w.state.tasks t).phase ≡ true → (task_at w.state.tasks t).deadline ≡ None

-- the same contexts are kept of each task that is not dormant, and the same of each handler
pub record SameBodies {C : Type 0} (v w : World C) : Type 0 where
  pub tasks :
      (t : ℕ) → is_dormant (task_at v.state.tasks t).phase ≡ false →
      kept_context (context_at v.contexts.tasks t) ≡ kept_context (context_at w.contexts.tasks t)
  pub handlers : v.contexts.handlers ≡ w.contexts.handlers
  pub long : length v.contexts.tasks ≡ length w.contexts.tasks

-- What tells the contexts that two worlds keep.
use Rattle.std.specs.Prelude.{◌≡◌, ℕ, ◌<◌, pos, true, false, List, Some, get_or}
use Rattle.fmp_base.specs.declared.bodies.HandlerStart.{HandlerStart}
use Rattle.fmp_base.specs.declared.states.Handler.{Handler}
use Rattle.fmp_base.specs.Meanings.{World, context_at, context_in, handler_start, kept_context, task_body}
use Rattle.fmp_base.specs.States.{processor_at, task_at}
use Rattle.fmp_base.specs.Systems.{SystemTables}
use Rattle.fmp_base.specs.TaskCalls.{is_dormant}
use Rattle.fmp_instructions.specs.declared.instructions.MachineContext.{MachineContext}
use Rattle.fmp_instructions.specs.Instructions.{BodyTables}
use Rattle.fmp_reachable.specs.Rooms.{is_handler_of, locals_at}

-- the same is told of two contexts of a body: the place, the body's own locals, and the operands
pub record SameTold (bodies : List BodyTables) (body : ℕ) (c d : MachineContext) : Type 0 where
  pub pc : c.pc ≡ d.pc
  pub count : c.count ≡ d.count
  pub locals : (l : ℕ) → l < locals_at bodies body → get_or c.locals l (pos 0) ≡ get_or d.locals l (pos 0)
  pub operands : (i : ℕ) → i < c.count → get_or c.operands i (pos 0) ≡ get_or d.operands i (pos 0)

-- the same handlers run in two worlds, and the same is told of what is kept of them, and of each task that is not
-- dormant
pub record AreTold (sys : SystemTables) (bodies : List BodyTables) (v w : World MachineContext) : Type 0 where
  pub handlers : (p : ℕ) → (processor_at v.state p).handler ≡ (processor_at w.state p).handler
  pub tasks :
      (t : ℕ) (c d : MachineContext) → is_dormant (task_at v.state.tasks t).phase ≡ false →
      kept_context (context_at v.contexts.tasks t) ≡ Some c → kept_context (context_at w.contexts.tasks t) ≡ Some d →
      SameTold bodies (task_body sys t) c d
  pub running :
      (p : ℕ) (h : Handler) (start : HandlerStart) (c d : MachineContext) →
      (processor_at v.state p).handler ≡ Some h → is_handler_of sys p h ≡ true → handler_start sys h ≡ Some start →
      kept_context (context_in (context_at v.contexts.handlers p)) ≡ Some c →
      kept_context (context_in (context_at w.contexts.handlers p)) ≡ Some d → SameTold bodies start.body c d

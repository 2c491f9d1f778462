-- What is kept of a body lies within the room of its code: its locals, and the operands that its depth table allows.
use Rattle.std.specs.Prelude.{◌≡◌, ℕ, ◌<◌, ◌≤◌, pos, Bool, true, List, length, get_or, slice_get, Option, Some, None}
use Rattle.fmp_base.specs.declared.bodies.HandlerContext.{HandlerContext}
use Rattle.fmp_base.specs.declared.bodies.HandlerStart.{HandlerStart}
use Rattle.fmp_base.specs.declared.bodies.Held.{Held}
use Rattle.fmp_base.specs.declared.bodies.Held.TheVariants.{Goes, Awaits}
use Rattle.fmp_base.specs.declared.states.Handler.{Handler}
use Rattle.fmp_base.specs.declared.states.Handler.TheVariants as handler
use Rattle.fmp_base.specs.Meanings.{World, context_at, handler_start, task_body}
use Rattle.fmp_base.specs.Settles.{cycles_on, interrupts_on}
use Rattle.fmp_base.specs.States.{KernelState, processor_at}
use Rattle.fmp_base.specs.Systems.{SystemTables}
use Rattle.fmp_worlds.specs.Settled.{IsThere}
use Rattle.fmp_instructions.specs.declared.instructions.MachineContext.{MachineContext}
use Rattle.fmp_instructions.specs.Instructions.{BodyTables, depths_at}
use Rattle.fmp_instructions.specs.Verify.{IsPlaced, VerifiedBody}

abbrev pub found_locals : Option BodyTables → ℕ
found_locals None = 0
found_locals (Some b) = b.locals

-- how many locals a body has; none if there is no such body
abbrev pub locals_at : List BodyTables → ℕ → ℕ
locals_at bodies body = found_locals (slice_get bodies body)

-- a state has as many processors, and flags of cyclic handlers, as its system
pub record HasSizes (sys : SystemTables) (s : KernelState) : Type 0 where
  pub processors : length s.processors ≡ sys.processors
  pub cyclics : length s.pending_cyclics ≡ length sys.cyclics

-- the code keeps to its depth tables, and each body has a local for its extended information
pub record HasRooms (bodies : List BodyTables) : Type 0 where
  pub each : (k : ℕ) (body : BodyTables) → slice_get bodies k ≡ Some body → VerifiedBody body
  pub locals : (k : ℕ) (body : BodyTables) → slice_get bodies k ≡ Some body → 1 ≤ body.locals

-- the code has the body of each task and of each handler
pub record HasBodies (sys : SystemTables) (bodies : List BodyTables) : Type 0 where
  pub tasks : (t : ℕ) → t < length sys.tasks → IsThere (slice_get bodies (task_body sys t))
  pub handlers :
      (h : Handler) (start : HandlerStart) → handler_start sys h ≡ Some start →
      IsThere (slice_get bodies start.body)

-- A context within the room of a body: it has 64 locals, those after the body's own are 0, and it has as many operands
-- as the depth table says of its place.
pub record IsWithin (bodies : List BodyTables) (body : ℕ) (c : MachineContext) : Type 0 where
  pub long : length c.locals ≡ 64
  pub locals : (l : ℕ) → locals_at bodies body ≤ l → get_or c.locals l (pos 0) ≡ pos 0
  pub placed : IsPlaced (depths_at bodies body) c

-- a context of a body that may await a reply
abbrev pub IsHeldWithin : List BodyTables → ℕ → Held MachineContext → Type 0
IsHeldWithin bodies body (Goes c) = IsWithin bodies body c
IsHeldWithin bodies body (Awaits c) = IsWithin bodies body c

-- a context is kept, within the room of its body
abbrev pub IsKeptWithin : List BodyTables → ℕ → Option (Held MachineContext) → Type 0
IsKeptWithin bodies body None = ⊥
IsKeptWithin bodies body (Some held) = IsHeldWithin bodies body held

-- a context that awaits no reply
abbrev pub IsGoingWithin : List BodyTables → ℕ → Held MachineContext → Type 0
IsGoingWithin bodies body (Goes c) = IsWithin bodies body c
IsGoingWithin bodies body (Awaits c) = ⊥

-- whether a handler is one of processor p
abbrev pub is_handler_of : SystemTables → ℕ → Handler → Bool
is_handler_of sys p (handler.Interrupt i) = interrupts_on sys p i
is_handler_of sys p (handler.Cyclic c) = cycles_on sys p c

-- a handler that runs on p is one of p, and this is kept of it: a context of its body, which awaits no reply
pub record RunsWithin (sys : SystemTables) (bodies : List BodyTables) (p : ℕ) (h : Handler)
    (kept : HandlerContext (Held MachineContext)) : Type 0 where
  pub own : is_handler_of sys p h ≡ true
  pub start : HandlerStart
  pub starts : handler_start sys h ≡ Some start
  pub body : kept.body ≡ start.body
  pub within : IsGoingWithin bodies kept.body kept.context

-- what is kept of the handler of p: a context exactly where one runs
abbrev pub IsHandlerWithin : SystemTables → List BodyTables → ℕ → Option Handler
    → Option (HandlerContext (Held MachineContext)) → Type 0
IsHandlerWithin sys bodies p None None = Unit {0}
IsHandlerWithin sys bodies p None (Some kept) = ⊥
IsHandlerWithin sys bodies p (Some h) None = ⊥
IsHandlerWithin sys bodies p (Some h) (Some kept) = RunsWithin sys bodies p h kept

-- A context is kept of each task and of each handler that runs, within the room of its body, and of nothing else.
pub record IsWithinRooms (sys : SystemTables) (bodies : List BodyTables) (w : World MachineContext) : Type 0 where
  pub tasks : (t : ℕ) → t < length sys.tasks → IsKeptWithin bodies (task_body sys t) (context_at w.contexts.tasks t)
  pub handlers :
      (p : ℕ) →
      IsHandlerWithin sys bodies p (processor_at w.state p).handler (context_at w.contexts.handlers p)
  pub task_places : length w.contexts.tasks ≡ length sys.tasks
  pub handler_places : length w.contexts.handlers ≡ sys.processors

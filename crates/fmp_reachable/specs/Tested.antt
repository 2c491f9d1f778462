-- What a kernel knows of its state, and what is tested of its world, to find that sound.
use Rattle.std.specs.Prelude.{◌≡◌, ℕ, ◌+◌, ◌<◌, ◌≤◌, pos, true, false, List, [], length, map, get_or, Option, Some}
use Rattle.std.specs.Prelude.{None}
use Rattle.fmp_base.specs.declared.bodies.HandlerContext.{HandlerContext}
use Rattle.fmp_base.specs.declared.bodies.HandlerStart.{HandlerStart}
use Rattle.fmp_base.specs.declared.bodies.Held.{Held}
use Rattle.fmp_base.specs.declared.states.Handler.{Handler}
use Rattle.fmp_base.specs.declared.states.TaskBlock.{TaskBlock}
use Rattle.fmp_base.specs.Meanings.{World, body_in, context_at, context_in, handler_start, kept_context, task_body}
use Rattle.fmp_base.specs.States.{KernelState, processor_at, task_at}
use Rattle.fmp_base.specs.Systems.{SystemTables}
use Rattle.fmp_base.specs.TaskCalls.{is_dormant}
use Rattle.fmp_contexts.specs.Contexts.{is_going}
use Rattle.fmp_instructions.specs.declared.instructions.MachineContext.{MachineContext}
use Rattle.fmp_instructions.specs.Instructions.{BodyTables}
use Rattle.fmp_reachable.specs.Rooms.{is_handler_of, locals_at}
use Rattle.fmp_reachable.specs.Sound.{sizes, sizes_of}
use Rattle.fmp_ring.specs.Orders.{IsOrder}
use Rattle.fmp_ring.specs.RingLists.{AreDisjoint}
use Rattle.fmp_tasks.specs.Homes.{Standing, is_waiting}
use Rattle.fmp_ticks.specs.Times.{NoneBefore}

-- what needs no test
pub record IsKept (sys : SystemTables) (s : KernelState) : Type 0 where
  pub distinct : IsOrder (length s.tasks) s.order
  pub standing : Standing s.tasks s.order
  pub deadlines : NoneBefore (s.clock + 1) (map (λ (x : TaskBlock). x.deadline) s.tasks)
  pub due_times : NoneBefore (s.clock + 1) s.due_times
  pub disjoint : AreDisjoint s.mailboxes
  pub once : (x : ℕ) → x < length s.mailboxes → IsOrder (length sys.messages) (get_or s.mailboxes x [])
  pub sizes : sizes s ≡ sizes_of sys
  pub interrupts : length s.pending_interrupts ≡ 32

-- a context has 64 locals, and those after this many are 0
pub record HasClearLocals (own : ℕ) (c : MachineContext) : Type 0 where
  pub long : length c.locals ≡ 64
  pub clear : (l : ℕ) → own ≤ l → get_or c.locals l (pos 0) ≡ pos 0

-- a context is kept, and its locals after the body's own are 0
abbrev pub KeepsOwnLocals : List BodyTables → ℕ → Option MachineContext → Type 0
KeepsOwnLocals bodies body None = ⊥
KeepsOwnLocals bodies body (Some c) = HasClearLocals (locals_at bodies body) c

-- a dormant task has no deadline and is not suspended
pub record IsAtRest (x : TaskBlock) : Type 0 where
  pub rest : is_dormant x.phase ≡ true → x.deadline ≡ None
  pub calm : is_dormant x.phase ≡ true → x.suspended ≡ false

-- of task t
pub record IsSoundTask (sys : SystemTables) (bodies : List BodyTables) (w : World MachineContext) (t : ℕ) : Type 0 where
  pub rest : IsAtRest (task_at w.state.tasks t)
  pub held :
      is_waiting (task_at w.state.tasks t).phase ≡ true → is_going (context_at w.contexts.tasks t) ≡ false
  pub locals : KeepsOwnLocals bodies (task_body sys t) (kept_context (context_at w.contexts.tasks t))

-- a handler that begins with this body, if it begins
abbrev pub StartsIn : ℕ → Option HandlerStart → Type 0
StartsIn body None = ⊥
StartsIn body (Some start) = body ≡ start.body

-- of the handler of p, if one runs: it is one of p, and what is kept is a context of its body
abbrev pub IsSoundHandler : SystemTables → List BodyTables → ℕ → Option Handler
    → Option (HandlerContext (Held MachineContext)) → Type 0
IsSoundHandler sys bodies p None kept = kept_context (context_in kept) ≡ None
IsSoundHandler sys bodies p (Some h) kept =
    (is_handler_of sys p h ≡ true) × StartsIn (body_in kept) (handler_start sys h) × (is_going (context_in kept) ≡ true)
    × KeepsOwnLocals bodies (body_in kept) (kept_context (context_in kept))

-- of processor p
pub record IsSoundOn (sys : SystemTables) (bodies : List BodyTables) (w : World MachineContext) (p : ℕ) : Type 0 where
  pub handler : IsSoundHandler sys bodies p (processor_at w.state p).handler (context_at w.contexts.handlers p)

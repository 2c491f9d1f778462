-- Worlds whose fields have the same numbers keep contexts of which the same is told.
use Rattle.std.proofs.Common.{◌≡◌, ℕ, ◌<◌, List, Option, Some, None, Bool, true, false, length, refl, sym, ap, ◌∙◌}
use Rattle.std.proofs.Common.{subst, ⊎_elim, pos}
use Rattle.std.specs.Prelude.{get_or, slice_get}
use Rattle.std.proofs.lemmas.Bool.{cases_lt}
use Rattle.std.proofs.lemmas.Option.{slice_get_past}
use Rattle.fmp_base.specs.declared.bodies.HandlerContext.{HandlerContext}
use Rattle.fmp_base.specs.declared.bodies.HandlerStart.{HandlerStart}
use Rattle.fmp_base.specs.declared.bodies.Held.{Held}
use Rattle.fmp_base.specs.declared.bodies.Held.TheVariants.{Goes, Awaits}
use Rattle.fmp_base.specs.declared.states.Handler.{Handler}
use Rattle.fmp_base.specs.declared.states.Phase.{Phase}
use Rattle.fmp_base.specs.declared.states.Processor.{Processor}
use Rattle.fmp_base.specs.declared.states.TaskBlock.{TaskBlock}
use Rattle.fmp_base.specs.Meanings.{World, context_at, context_in, handler_start, kept_context, task_body}
use Rattle.fmp_base.specs.States.{KernelState, idle, processor_at, task_at}
use Rattle.fmp_base.specs.Systems.{SystemTables, found}
use Rattle.fmp_base.specs.TaskCalls.{is_dormant}
use Rattle.fmp_bisimulation.specs.Alike.{AlikeStates}
use Rattle.fmp_bisimulation.proofs.TimeLaws.{blocks-at}
use Rattle.fmp_fields.specs.declared.field.What.{What}
use Rattle.fmp_fields.specs.declared.field.What.TheVariants as what
use Rattle.fmp_fields.specs.declared.owner.Owner.TheVariants as owner
use Rattle.fmp_fields.specs.FieldNumbers.{body_number, context_number, owned_by, unless}
use Rattle.fmp_reachable.specs.Readable.{IsReadable}
use Rattle.fmp_fields.proofs.StateFields.{SameFields, within}
use Rattle.fmp_instructions.specs.declared.instructions.MachineContext.{MachineContext}
use Rattle.fmp_instructions.specs.Instructions.{BodyTables}
use Rattle.fmp_reachable.proofs.NumberLaws.{unsigned-told}
use Rattle.fmp_reachable.specs.Rooms.{IsGoingWithin, IsHandlerWithin, IsKeptWithin, IsWithin, is_handler_of}
use Rattle.fmp_reachable.specs.Told.{AreTold, SameTold}

-- who is not dormant is one of the tasks
is-task : (xs : List TaskBlock) (t : ℕ) → is_dormant (task_at xs t).phase ≡ false → t < length xs
is-task xs t on =
    ⊎_elim (λ lt. lt)
    (λ le.
    let past : slice_get xs t ≡ None = slice_get_past xs t le in
    let off : is_dormant (task_at xs t).phase ≡ true = rw past refl in
    let clash : true ≡ false = sym off ∙ on in absurd (cc clash))
    (cases_lt t (length xs))

-- a processor on which a handler runs is one of them
is-processor : (s : KernelState) (p : ℕ) (i : Handler) → (processor_at s p).handler ≡ Some i → p < length s.processors
is-processor s p i runs =
    ⊎_elim (λ lt. lt)
    (λ le.
    let past : slice_get s.processors p ≡ None = slice_get_past s.processors p le in
    let none : (processor_at s p).handler ≡ None = ap (λ (o : Option Processor). (found idle o).handler) past in
    let clash : None ≡ Some i = sym none ∙ runs in absurd (cc clash))
    (cases_lt p (length s.processors))

-- what is told of a body tells what is told of its context
told-of : (o q : Option MachineContext) (c d : MachineContext) (f : What) → o ≡ Some c → q ≡ Some d
    → body_number o f ≡ body_number q f → context_number c f ≡ context_number d f
told-of o q c d f a b e =
    sym (ap (λ (x : Option MachineContext). body_number x f) a) ∙ e
    ∙ ap (λ (x : Option MachineContext). body_number x f) b

kept-within : (bodies : List BodyTables) (body : ℕ) (k : Option (Held MachineContext)) (c : MachineContext)
    → IsKeptWithin bodies body k → kept_context k ≡ Some c → IsWithin bodies body c
kept-within bodies body None c h e = absurd h
kept-within bodies body (Some (Goes d)) c h e = let same : d ≡ c = cc e in subst
    (λ (x : MachineContext). IsWithin bodies body x) same h
kept-within bodies body (Some (Awaits d)) c h e = let same : d
    ≡ c = cc e in subst (λ (x : MachineContext). IsWithin bodies body x) same h

going-within : (bodies : List BodyTables) (body : ℕ) (k : Held MachineContext) (c : MachineContext)
    → IsGoingWithin bodies body k → kept_context (Some k) ≡ Some c → IsWithin bodies body c
going-within bodies body (Goes d) c h e = let same : d ≡ c = cc e in subst
    (λ (x : MachineContext). IsWithin bodies body x) same h
going-within bodies body (Awaits d) c h e = absurd h

handler-within : (sys : SystemTables) (bodies : List BodyTables) (p : ℕ) (o : Option Handler)
    (k : Option (HandlerContext (Held MachineContext))) (i : Handler) (start : HandlerStart) (c : MachineContext)
    → o ≡ Some i → IsHandlerWithin sys bodies p o k → handler_start sys i ≡ Some start
    → kept_context (context_in k) ≡ Some c → IsWithin bodies start.body c
handler-within sys bodies p None k i start c e h starts kept = absurd (cc e)
handler-within sys bodies p (Some j) None i start c e h starts kept = absurd h
handler-within sys bodies p (Some j) (Some k) i start c e h starts kept =
    let one : j ≡ i = cc e in
    let both : Some h.start ≡ Some start = sym h.starts ∙ ap (λ (x : Handler). handler_start sys x) one ∙ starts in
    let same : h.start ≡ start = cc both in
    let body : k.body ≡ start.body = h.body ∙ ap (λ (x : HandlerStart). x.body) same in
    subst (λ (n : ℕ). IsWithin bodies n c) body (going-within bodies k.body k.context c h.within kept)

module _ (sys : SystemTables) (bodies : List BodyTables) (v w : World MachineContext) (came other : ℕ)
    (a : IsReadable sys bodies v) (b : IsReadable sys bodies w) (h : SameFields sys bodies v w came other)
    (states : AlikeStates sys v.state w.state) where
  handlers-same : (p : ℕ) → (processor_at v.state p).handler ≡ (processor_at w.state p).handler
  handlers-same p = ap (λ (s : KernelState). (processor_at s p).handler) states.rest

  phase-same : (t : ℕ) → (task_at v.state.tasks t).phase ≡ (task_at w.state.tasks t).phase
  phase-same t =
      let block = blocks-at v.state.clock w.state.clock v.state.tasks w.state.tasks states.tasks t in
      ap (λ (z : TaskBlock). z.phase) block.rest

  owned : (u : World MachineContext) (t : ℕ) (c : MachineContext) → is_dormant (task_at u.state.tasks t).phase ≡ false
      → kept_context (context_at u.contexts.tasks t) ≡ Some c → owned_by u (owner.Task t) ≡ Some c
  owned u t c on kept = ap (λ (x : Bool). unless x (kept_context (context_at u.contexts.tasks t))) on ∙ kept

  task-told : (t : ℕ) (c d : MachineContext) → is_dormant (task_at v.state.tasks t).phase ≡ false
      → kept_context (context_at v.contexts.tasks t) ≡ Some c → kept_context (context_at w.contexts.tasks t) ≡ Some d
      → SameTold bodies (task_body sys t) c d
  task-told t c d on kc kd =
      let lt : t < length sys.tasks = within _ _ t a.sizes.tasks (is-task v.state.tasks t on) in
      let also : is_dormant (task_at w.state.tasks t).phase ≡ false = ap (λ (x : Phase). is_dormant x)
      (sym (phase-same t)) ∙ on in
      let oc = owned v t c on kc in
      let od = owned w t d also kd in
      let room = kept-within bodies (task_body sys t) (context_at v.contexts.tasks t) c (a.rooms.tasks t lt) kc in
      record {
        pc = told-of _ _ c d (what.Pc t) oc od (h.each (what.Pc t) lt);
        count = told-of _ _ c d (what.Operands t) oc od (h.each (what.Operands t) lt);
        locals = λ l below.
            unsigned-told (get_or c.locals l (pos 0)) (get_or d.locals l (pos 0))
            (told-of _ _ c d (what.Local t l) oc od (h.each (what.Local t l) (lt, below)));
        operands = λ i below.
            unsigned-told (get_or c.operands i (pos 0)) (get_or d.operands i (pos 0))
            (told-of _ _ c d (what.Operand t i) oc od (h.each (what.Operand t i)
            (lt, record { place = c.pc; depth = c.count; there = room.placed.depth; below = below })));
      }

  handler-told : (p : ℕ) (i : Handler) (start : HandlerStart) (c d : MachineContext)
      → (processor_at v.state p).handler ≡ Some i → is_handler_of sys p i ≡ true → handler_start sys i ≡ Some start
      → kept_context (context_in (context_at v.contexts.handlers p)) ≡ Some c
      → kept_context (context_in (context_at w.contexts.handlers p)) ≡ Some d → SameTold bodies start.body c d
  handler-told p i start c d runs own starts kc kd =
      let lt : p < sys.processors = within _ _ p a.sizes.processors (is-processor v.state p i runs) in
      let room =
      handler-within sys bodies p (processor_at v.state p).handler (context_at v.contexts.handlers p) i start c runs
      (a.rooms.handlers p) starts kc in
      record {
        pc = told-of _ _ c d (what.HandlerPc p) kc kd (h.each (what.HandlerPc p) lt);
        count = told-of _ _ c d (what.HandlerOperands p) kc kd (h.each (what.HandlerOperands p) lt);
        locals = λ l below.
            unsigned-told (get_or c.locals l (pos 0)) (get_or d.locals l (pos 0))
            (told-of _ _ c d (what.HandlerLocal p l) kc kd (h.each (what.HandlerLocal p l)
            (lt, record { start = start; runs = record { handler = i; own = own; starts = starts }; below = below })));
        operands = λ j below.
            unsigned-told (get_or c.operands j (pos 0)) (get_or d.operands j (pos 0))
            (told-of _ _ c d (what.HandlerOperand p j) kc kd (h.each (what.HandlerOperand p j) (
              lt,
              record {
                start = start;
                runs = record { handler = i; own = own; starts = starts };
                operand = record { place = c.pc; depth = c.count; there = room.placed.depth; below = below };
              },
            )));
      }

  pub bodies-told : AreTold sys bodies v w
  bodies-told = record { handlers = handlers-same; tasks = task-told; running = handler-told }

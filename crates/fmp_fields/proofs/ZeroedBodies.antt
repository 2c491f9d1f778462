-- Worlds with 0 for each dead local are read and kept within their rooms as the others are.
use Rattle.std.proofs.Common.{◌≡◌, ℕ, zero, suc, ℤ, pos, List, [], ◌∷◌, Bool, true, false, Option, Some, None, map}
use Rattle.std.proofs.Common.{refl, sym, ap, ◌∙◌, subst}
use Rattle.std.specs.Prelude.{get_or}
use Rattle.std.proofs.lemmas.List.{length-map}
use Rattle.fmp_base.specs.declared.bodies.HandlerContext.{HandlerContext}
use Rattle.fmp_base.specs.declared.bodies.Held.{Held}
use Rattle.fmp_base.specs.declared.bodies.Held.TheVariants.{Goes, Awaits}
use Rattle.fmp_base.specs.declared.states.Handler.{Handler}
use Rattle.fmp_base.specs.declared.states.Phase.{Phase}
use Rattle.fmp_base.specs.declared.states.Phase.TheVariants.{Dormant, Ready, Waiting}
use Rattle.fmp_base.specs.Meanings.{World, body_in, context_at, context_in, kept_context, task_body}
use Rattle.fmp_base.specs.States.{processor_at, task_at}
use Rattle.fmp_base.specs.Systems.{SystemTables}
use Rattle.fmp_base.specs.TaskCalls.{is_dormant}
use Rattle.fmp_contexts.specs.Contexts.{is_going}
use Rattle.fmp_fields.specs.declared.owner.Owner.{Owner}
use Rattle.fmp_fields.specs.declared.owner.Owner.TheVariants as owner
use Rattle.fmp_fields.specs.FieldNumbers.{owned_by, unless}
use Rattle.fmp_reachable.specs.Readable.{IsReadable}
use Rattle.fmp_fields.specs.Reading.{body_by, kept_by, with_zeros}
use Rattle.fmp_instructions.specs.declared.instructions.MachineContext.{MachineContext}
use Rattle.fmp_instructions.specs.Instructions.{BodyTables}
use Rattle.fmp_live.specs.LiveLocals.{LiveTable, row_of, table_at}
use Rattle.fmp_live.specs.Zeroed.{if_live, zeroed, zeroed_by, zeroed_context, zeroed_handler, zeroed_held, zeroed_task}
use Rattle.fmp_live.proofs.LikeLaws.{context_at-each, length-each}
use Rattle.fmp_live.proofs.RowLaws.{get_or-zeroed, length-zeroed}
use Rattle.fmp_reachable.specs.Rooms.{IsGoingWithin, IsHandlerWithin, IsKeptWithin, IsWithin}
use Rattle.fmp_reachable.specs.Numbers.{unsigned}
use Rattle.fmp_reachable.specs.Worlds.{IsHeldBy}

context_at-map : {A : Type 0} (f : Option A → Option A) → f None ≡ None → (cs : List (Option A)) (p : ℕ)
    → context_at (map f cs) p ≡ f (context_at cs p)
context_at-map f none [] p = sym none
context_at-map f none (c ∷ cs) zero = refl
context_at-map f none (c ∷ cs) (suc p) = context_at-map f none cs p

zero-stays : (b : Bool) (x : ℤ) → x ≡ pos 0 → if_live b x ≡ pos 0
zero-stays true x e = e
zero-stays false x e = refl

-- whether a context awaits a reply is as before
held-zeroed : (p : Phase) (t : LiveTable) (c : Option (Held MachineContext)) → IsHeldBy p c
    → IsHeldBy p (zeroed_task t c)
held-zeroed p t None h = h
held-zeroed Dormant t (Some (Goes c)) h = tt
held-zeroed Dormant t (Some (Awaits c)) h = tt
held-zeroed Ready t (Some (Goes c)) h = tt
held-zeroed Ready t (Some (Awaits c)) h = absurd h
held-zeroed (Waiting w) t (Some (Goes c)) h = absurd h
held-zeroed (Waiting w) t (Some (Awaits c)) h = tt

-- a context with 0 for each dead local, from the row of live ones
context-zeroed : (t : LiveTable) (k : Option (Held MachineContext)) (c : MachineContext) → kept_context k ≡ Some c
    → with_zeros (row_of t c.pc (is_going k)) (Some c) ≡ kept_context (zeroed_task t k)
context-zeroed t None c e = absurd cc
context-zeroed t (Some (Goes d)) c e =
    let same : c ≡ d = cc in
    ap (λ (x : MachineContext). Some (zeroed_context t.goes x)) same
context-zeroed t (Some (Awaits d)) c e =
    let same : c ≡ d = cc in
    ap (λ (x : MachineContext). Some (zeroed_context t.awaits x)) same

context-none : (t : LiveTable) (k : Option (Held MachineContext)) → kept_context k ≡ None
    → None ≡ kept_context (zeroed_task t k)
context-none t None e = refl
context-none t (Some (Goes d)) e = absurd cc
context-none t (Some (Awaits d)) e = absurd cc

context_in-zeroed : (tables : List LiveTable) (h : Option (HandlerContext (Held MachineContext)))
    → context_in (zeroed_handler tables h) ≡ zeroed_task (table_at tables (body_in h)) (context_in h)
context_in-zeroed tables None = refl
context_in-zeroed tables (Some h) = refl

-- a local with 0 for each dead one
pub local_live : (row : List Bool) (locals : List ℤ) (l : ℕ) → get_or row l true ≡ true
    → unsigned (get_or locals l (pos 0)) ≡ unsigned (get_or (zeroed_by row locals) l (pos 0))
local_live row locals l e =
    sym
    (ap (λ (x : ℤ). unsigned x)
    (get_or-zeroed row locals l ∙ ap (λ (b : Bool). if_live b (get_or locals l (pos 0))) e))

pub local_dead : (row : List Bool) (locals : List ℤ) (l : ℕ) → get_or row l true ≡ false
    → 0 ≡ unsigned (get_or (zeroed_by row locals) l (pos 0))
local_dead row locals l e =
    sym
    (ap (λ (x : ℤ). unsigned x)
    (get_or-zeroed row locals l ∙ ap (λ (b : Bool). if_live b (get_or locals l (pos 0))) e))

module _ (bodies : List BodyTables) (body : ℕ) where
  within-zeroed : (rows : List (List Bool)) (c : MachineContext) → IsWithin bodies body c
      → IsWithin bodies body (zeroed_context rows c)
  within-zeroed rows c h =
      let row = get_or rows c.pc [] in
      record {
        long = length-zeroed row c.locals ∙ h.long;
        locals = λ l past.
            get_or-zeroed row c.locals l
            ∙ zero-stays (get_or row l true) (get_or c.locals l (pos 0)) (h.locals l past);
        placed = record { depth = h.placed.depth; rest = h.placed.rest };
      }

  kept-zeroed : (t : LiveTable) (c : Option (Held MachineContext)) → IsKeptWithin bodies body c
      → IsKeptWithin bodies body (zeroed_task t c)
  kept-zeroed t None h = h
  kept-zeroed t (Some (Goes c)) h = within-zeroed t.goes c h
  kept-zeroed t (Some (Awaits c)) h = within-zeroed t.awaits c h

  going-zeroed : (t : LiveTable) (c : Held MachineContext) → IsGoingWithin bodies body c
      → IsGoingWithin bodies body (zeroed_held t c)
  going-zeroed t (Goes c) h = within-zeroed t.goes c h
  going-zeroed t (Awaits c) h = absurd h

handler-zeroed : (sys : SystemTables) (bodies : List BodyTables) (tables : List LiveTable) (p : ℕ) (i : Option Handler)
    (h : Option (HandlerContext (Held MachineContext))) → IsHandlerWithin sys bodies p i h
    → IsHandlerWithin sys bodies p i (zeroed_handler tables h)
handler-zeroed sys bodies tables p None None h = tt
handler-zeroed sys bodies tables p None (Some k) h = absurd h
handler-zeroed sys bodies tables p (Some i) None h = absurd h
handler-zeroed sys bodies tables p (Some i) (Some k) h =
    record {
      own = h.own;
      start = h.start;
      starts = h.starts;
      body = h.body;
      within = going-zeroed bodies k.body (table_at tables k.body) k.context h.within;
    }

module _ (sys : SystemTables) (tables : List LiveTable) (w : World MachineContext) where
  abbrev task : ℕ → Option (Held MachineContext) → Option (Held MachineContext)
  task t = zeroed_task (table_at tables (task_body sys t))

  task-there : (t : ℕ) → context_at (zeroed sys tables w).contexts.tasks t ≡ task t (context_at w.contexts.tasks t)
  task-there t = context_at-each task (λ i. refl) w.contexts.tasks t

  handler-there : (p : ℕ)
      → context_at (zeroed sys tables w).contexts.handlers p ≡ zeroed_handler tables (context_at w.contexts.handlers p)
  handler-there p = context_at-map (zeroed_handler tables) refl w.contexts.handlers p

  -- what is read of the body of an owner, where its context is this one
  pub owned_zeroed : (o : Owner) (c : MachineContext) → owned_by w o ≡ Some c
      → with_zeros (row_of (table_at tables (body_by sys w.contexts o)) c.pc (is_going (kept_by w.contexts o))) (Some c)
      ≡ owned_by (zeroed sys tables w) o
  owned_zeroed (owner.Task t) c e =
      by_phase (is_dormant (task_at w.state.tasks t).phase) refl e where
        by_phase : (b : Bool) → is_dormant (task_at w.state.tasks t).phase ≡ b
            → unless b (kept_context (context_at w.contexts.tasks t)) ≡ Some c
            → with_zeros (row_of (table_at tables (task_body sys t)) c.pc (is_going (context_at w.contexts.tasks t)))
            (Some c) ≡ owned_by (zeroed sys tables w) (owner.Task t)
        by_phase true off there = absurd cc
        by_phase false on there =
            context-zeroed (table_at tables (task_body sys t)) (context_at w.contexts.tasks t) c there
            ∙ sym
            (ap (λ (b : Bool). unless b (kept_context (context_at (zeroed sys tables w).contexts.tasks t))) on
            ∙ ap (λ (x : Option (Held MachineContext)). kept_context x) (task-there t))
  owned_zeroed (owner.Handler p) c e =
      let h : Option (HandlerContext (Held MachineContext)) = context_at w.contexts.handlers p in
      context-zeroed (table_at tables (body_in h)) (context_in h) c e
      ∙ sym
      (ap (λ (x : Option (HandlerContext (Held MachineContext))). kept_context (context_in x)) (handler-there p)
      ∙ ap (λ (x : Option (Held MachineContext)). kept_context x) (context_in-zeroed tables h))

  -- and where it has none
  pub none_zeroed : (o : Owner) → owned_by w o ≡ None → None ≡ owned_by (zeroed sys tables w) o
  none_zeroed (owner.Task t) e =
      by_phase (is_dormant (task_at w.state.tasks t).phase) refl e where
        by_phase : (b : Bool) → is_dormant (task_at w.state.tasks t).phase ≡ b
            → unless b (kept_context (context_at w.contexts.tasks t)) ≡ None
            → None ≡ owned_by (zeroed sys tables w) (owner.Task t)
        by_phase true off there =
            sym (ap (λ (b : Bool). unless b (kept_context (context_at (zeroed sys tables w).contexts.tasks t))) off)
        by_phase false on there =
            context-none (table_at tables (task_body sys t)) (context_at w.contexts.tasks t) there
            ∙ sym
            (ap (λ (b : Bool). unless b (kept_context (context_at (zeroed sys tables w).contexts.tasks t))) on
            ∙ ap (λ (x : Option (Held MachineContext)). kept_context x) (task-there t))
  none_zeroed (owner.Handler p) e =
      let h : Option (HandlerContext (Held MachineContext)) = context_at w.contexts.handlers p in
      context-none (table_at tables (body_in h)) (context_in h) e
      ∙ sym
      (ap (λ (x : Option (HandlerContext (Held MachineContext))). kept_context (context_in x)) (handler-there p)
      ∙ ap (λ (x : Option (Held MachineContext)). kept_context x) (context_in-zeroed tables h))

  -- a world that may be read may be read with dead locals as 0
  pub readable-zeroed : (bodies : List BodyTables) → IsReadable sys bodies w
      → IsReadable sys bodies (zeroed sys tables w)
  readable-zeroed bodies a =
      record {
        regular = record {
          state = a.regular.state;
          settled = a.regular.settled;
          held = λ t.
              subst (λ (c : Option (Held MachineContext)). IsHeldBy (task_at w.state.tasks t).phase c)
              (sym (task-there t))
              (held-zeroed (task_at w.state.tasks t).phase (table_at tables (task_body sys t))
              (context_at w.contexts.tasks t) (a.regular.held t));
          at_rest = a.regular.at_rest;
        };
        rooms = record {
          tasks = λ t lt.
              subst (λ (c : Option (Held MachineContext)). IsKeptWithin bodies (task_body sys t) c)
              (sym (task-there t))
              (kept-zeroed bodies (task_body sys t) (table_at tables (task_body sys t)) (context_at w.contexts.tasks t)
              (a.rooms.tasks t lt));
          handlers = λ p.
              subst
              (λ (c : Option (HandlerContext (Held MachineContext))).
              IsHandlerWithin sys bodies p (processor_at w.state p).handler c) (sym (handler-there p))
              (handler-zeroed sys bodies tables p (processor_at w.state p).handler (context_at w.contexts.handlers p)
              (a.rooms.handlers p));
          task_places = length-each task w.contexts.tasks ∙ a.rooms.task_places;
          handler_places = length-map w.contexts.handlers (zeroed_handler tables) ∙ a.rooms.handler_places;
        };
        sizes = a.sizes;
      }

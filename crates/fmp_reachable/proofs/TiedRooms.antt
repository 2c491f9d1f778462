-- Whatever is kept of a body after any events lies within its room.
use Rattle.std.proofs.Common.{◌≡◌, ℕ, zero, suc, List, [], ◌∷◌, Option, Some, None, refl, subst, ap}
use Rattle.std.specs.Prelude.{slice_get}
use Rattle.fmp_base.specs.declared.bodies.HandlerContext.{HandlerContext}
use Rattle.fmp_base.specs.declared.bodies.Held.{Held}
use Rattle.fmp_base.specs.declared.bodies.Held.TheVariants.{Goes, Awaits}
use Rattle.fmp_base.specs.declared.events.Event.{Event}
use Rattle.fmp_base.specs.declared.events.Event.TheVariants.{Run, Tick, Int}
use Rattle.fmp_base.specs.Contexts.{OfCall}
use Rattle.fmp_base.specs.Meanings.{Contexts, World, context_at, task_body}
use Rattle.fmp_base.specs.Runs.{Trace, run, run_on}
use Rattle.fmp_base.specs.Setups.{setup}
use Rattle.fmp_base.specs.Steps.{Reaction, Nothing, Did, Kept, step}
use Rattle.fmp_base.specs.Stretches.{Ending}
use Rattle.fmp_base.specs.Stretches as ends
use Rattle.fmp_base.specs.Systems.{SystemTables}
use Rattle.fmp_base.specs.TieLaws.{AllTied-context_at, setup-tied, step-tied}
use Rattle.fmp_base.specs.Ties.{AllTied, Any, ContextsTied, DoneTied, HandlerTied, HeldTied, KeepsTie, KeptOn}
use Rattle.fmp_base.specs.Ties.{OptionTied, StretchTied, over, kept, call, end_, fault}
use Rattle.fmp_instructions.specs.declared.instructions.MachineContext.{MachineContext}
use Rattle.fmp_instructions.specs.Instructions.{BodyTables}
use Rattle.fmp_instructions.specs.Machine.{code_meaning}
use Rattle.fmp_reachable.specs.Rooms.{HasRooms, IsHeldWithin, IsWithin}
use Rattle.fmp_reachable.proofs.BodyLaws.{deliver-within, start-within, stretch-within}

module _ {A : Type 0} (R : ℕ → A → A → Type 0) (left : (i : ℕ) (c d : A) → R i c d → R i c c) where
  held-left : (i : ℕ) (c d : Held A) → HeldTied R R i c d → HeldTied R R i c c
  held-left i (Goes c) (Goes d) h = left i c d h
  held-left i (Awaits c) (Awaits d) h = left i c d h
  held-left i (Goes c) (Awaits d) h = absurd h
  held-left i (Awaits c) (Goes d) h = absurd h

all-left : {A : Type 0} (R : ℕ → A → A → Type 0) → ((i : ℕ) (c d : A) → R i c d → R i c c) → (cs ds : List (Option A))
    → AllTied R cs ds → AllTied R cs cs
all-left R left [] ds h = tt
all-left R left (c ∷ cs) [] h = absurd h
all-left R left (None ∷ cs) (None ∷ ds) h = (tt, all-left (λ i. R (suc i)) (λ i. left (suc i)) cs ds h.1)
all-left R left (Some c ∷ cs) (Some d ∷ ds) h =
    (left zero c d h.0, all-left (λ i. R (suc i)) (λ i. left (suc i)) cs ds h.1)
all-left R left (None ∷ cs) (Some d ∷ ds) h = absurd h.0
all-left R left (Some c ∷ cs) (None ∷ ds) h = absurd h.0

module _ (sys : SystemTables) (bodies : List BodyTables) (rooms : HasRooms bodies) (n : ℕ) where
  -- within the room of this body, if there is one
  abbrev pub Fits : ℕ → MachineContext → Type 0
  Fits k c = (body : BodyTables) → slice_get bodies k ≡ Some body → IsWithin bodies k c

  abbrev pub Same : ℕ → MachineContext → MachineContext → Type 0
  Same k c d = (c ≡ d) × Fits k c

  abbrev Once : ℕ → MachineContext → MachineContext → Type 0
  Once k c d = Unit {0}

  -- a stretch is tied to itself
  ending : (k : ℕ) (x : Ending MachineContext)
      → ((body : BodyTables) → slice_get bodies k ≡ Some body → OfCall (IsWithin bodies k) x)
      → StretchTied (Same k) Any (λ c. (d : MachineContext) × Once k c d × Same k c d) x x
  ending k (ends.Call c made) h = call c c made (refl, h)
  ending k (ends.End c) h = end_ c c tt
  ending k (ends.Fault c f) h = fault c c f tt
  ending k (ends.Over None) h = over (ends.Over None)
  ending k (ends.Over (Some c)) h = kept c (ends.Over (Some c)) (c, tt, (refl, h))

  keeps : KeepsTie Same Same Same Once (code_meaning bodies) n (code_meaning bodies) n
  keeps =
      record {
        grows = λ k c d h. h;
        starts = λ k exinf. (refl, λ body e. start-within bodies rooms k body e exinf);
        delivers = λ k c d reply h. (
          ap (λ (x : MachineContext). (code_meaning bodies).deliver k x reply) h.0,
          λ body e. deliver-within bodies rooms k c reply (h.1 body e),
        );
        stretches = λ k c d h.
            subst (λ (x : MachineContext). StretchTied (Same k) Any (λ z. (y : MachineContext) × Once k d y
            × Same k z y)
            ((code_meaning bodies).stretch k n c) ((code_meaning bodies).stretch k n x)) h.0
            (ending k ((code_meaning bodies).stretch k n c) (λ body e. stretch-within bodies rooms k n c (h.1 body e)));
      }

  abbrev pub Tied : ℕ → Held MachineContext → Held MachineContext → Type 0
  Tied = HeldTied Same Same

  -- all that is kept fits
  abbrev pub AllFit : Contexts (Held MachineContext) → Type 0
  AllFit cs = ContextsTied sys Tied cs cs

  tied-left : (k : ℕ) (c d : Held MachineContext) → Tied k c d → Tied k c c
  tied-left = held-left Same (λ k c d h. (refl, h.1))

  contexts-left : (cs ds : Contexts (Held MachineContext)) → ContextsTied sys Tied cs ds → AllFit cs
  contexts-left cs ds h =
      record {
        tasks = all-left (λ t. Tied (task_body sys t)) (λ t. tied-left (task_body sys t)) cs.tasks ds.tasks h.tasks;
        handlers = all-left (λ p. HandlerTied Tied)
            (λ p c d x. record { bodies = refl; contexts = tied-left c.body c.context d.context x.contexts })
            cs.handlers ds.handlers h.handlers;
      }

  abbrev pub LeavesFit : Reaction MachineContext → Type 0
  LeavesFit Nothing = Unit {0}
  LeavesFit (Did d) = AllFit d.world.contexts
  LeavesFit (Kept p v) = AllFit v.contexts

  kept-fits : (w : World MachineContext) (e : Event) (v : World MachineContext) → KeptOn sys Same Same Once w e v
      → AllFit v.contexts
  kept-fits w (Run zero) v h = absurd h
  kept-fits w (Run (suc p)) v h = contexts-left v.contexts _ h.tied.contexts
  kept-fits w Tick v h = absurd h
  kept-fits w (Int i) v h = absurd h

  leaves-fit : (w : World MachineContext) (e : Event) (x : Reaction MachineContext)
      → DoneTied sys Same Same (KeptOn sys Same Same Once w e) x x → LeavesFit x
  leaves-fit w e Nothing h = tt
  leaves-fit w e (Did d) h = h.1.contexts
  leaves-fit w e (Kept p v) h = kept-fits w e v h

  pub step-fits : (w : World MachineContext) (e : Event) → AllFit w.contexts
      → LeavesFit (step sys (code_meaning bodies) n w e)
  step-fits w e h =
      leaves-fit w e (step sys (code_meaning bodies) n w e)
      (step-tied sys Same (code_meaning bodies) n (code_meaning bodies) n keeps w w e
      (record { states = refl; contexts = h }))

  run_on-fits : (w : World MachineContext) (x : Reaction MachineContext)
      (rest : World MachineContext → Trace MachineContext)
      → AllFit w.contexts → LeavesFit x
      → ((v : World MachineContext) → AllFit v.contexts → AllFit (rest v).world.contexts)
      → AllFit (run_on w x rest).world.contexts
  run_on-fits w Nothing rest h k go = go w h
  run_on-fits w (Did d) rest h k go = go d.world k
  run_on-fits w (Kept p v) rest h k go = go v k

  run-fits : (w : World MachineContext) (es : List Event) → AllFit w.contexts
      → AllFit (run sys (code_meaning bodies) n w es).world.contexts
  run-fits w [] h = h
  run-fits w (e ∷ es) h =
      run_on-fits w (step sys (code_meaning bodies) n w e) _ h (step-fits w e h) (λ v k. run-fits v es k)

  -- after setup and any events
  pub all-fit : (es : List Event)
      → AllFit (run sys (code_meaning bodies) n (setup sys (code_meaning bodies)).world es).world.contexts
  all-fit es =
      let tied = setup-tied sys Same (code_meaning bodies) n (code_meaning bodies) n keeps in
      run-fits (setup sys (code_meaning bodies)).world es tied.1.contexts

  held-fits : (k : ℕ) (body : BodyTables) → slice_get bodies k ≡ Some body → (h : Held MachineContext) → Tied k h h
      → IsHeldWithin bodies k h
  held-fits k body e (Goes c) h = h.1 body e
  held-fits k body e (Awaits c) h = h.1 body e

  -- what is kept of a task
  pub task-fits : (cs : Contexts (Held MachineContext)) → AllFit cs → (t : ℕ) (body : BodyTables)
      → slice_get bodies (task_body sys t) ≡ Some body → (h : Held MachineContext) → context_at cs.tasks t ≡ Some h
      → IsHeldWithin bodies (task_body sys t) h
  task-fits cs f t body e h there =
      let tied = AllTied-context_at (λ u. Tied (task_body sys u)) cs.tasks cs.tasks t f.tasks in
      held-fits (task_body sys t) body e h
      (subst (λ (o : Option (Held MachineContext)). OptionTied (Tied (task_body sys t)) o o) there tied)

  -- what is kept of a handler
  pub handler-fits : (cs : Contexts (Held MachineContext)) → AllFit cs
      → (p : ℕ) (h : HandlerContext (Held MachineContext))
      → context_at cs.handlers p ≡ Some h → (body : BodyTables) → slice_get bodies h.body ≡ Some body
      → IsHeldWithin bodies h.body h.context
  handler-fits cs f p h there body e =
      let tied = AllTied-context_at (λ q. HandlerTied Tied) cs.handlers cs.handlers p f.handlers in
      let same = subst (λ (o : Option (HandlerContext (Held MachineContext))). OptionTied (HandlerTied Tied) o o)
      there tied in
      held-fits h.body body e h.context same.contexts

-- All that is kept in a world lies within its rooms, where each context fits its body and no handler awaits a reply: so
-- it is after setup and any events.
use Rattle.std.proofs.Common.{◌≡◌, ℕ, ◌<◌, List, Option, Some, None, refl, sym, subst, ap, ◌∙◌}
use Rattle.std.specs.Prelude.{length, slice_get}
use Rattle.fmp_base.specs.declared.bodies.HandlerContext.{HandlerContext}
use Rattle.fmp_base.specs.declared.bodies.Held.{Held}
use Rattle.fmp_base.specs.declared.bodies.Held.TheVariants.{Goes, Awaits}
use Rattle.fmp_base.specs.declared.events.Event.{Event}
use Rattle.fmp_base.specs.declared.states.Caller.TheVariants as caller
use Rattle.fmp_base.specs.declared.states.Handler.{Handler}
use Rattle.fmp_base.specs.Meanings.{World, context_at, context_in, task_body}
use Rattle.fmp_base.specs.Runs.{run}
use Rattle.fmp_base.specs.Setups.{setup}
use Rattle.fmp_base.specs.States.{processor_at}
use Rattle.fmp_base.specs.Steps.{actor_by}
use Rattle.fmp_base.specs.Systems.{SystemTables}
use Rattle.fmp_worlds.specs.Settled.{IsThere}
use Rattle.fmp_worlds.proofs.Awaiting.{actors-free}
use Rattle.fmp_instructions.specs.declared.instructions.MachineContext.{MachineContext}
use Rattle.fmp_instructions.specs.Instructions.{BodyTables}
use Rattle.fmp_instructions.specs.Machine.{code_meaning}
use Rattle.fmp_reachable.specs.Rooms.{HasBodies, HasSizes, HasRooms, IsGoingWithin, IsHandlerWithin, IsHeldWithin}
use Rattle.fmp_reachable.specs.Rooms.{IsKeptWithin, IsWithinRooms, RunsWithin}
use Rattle.fmp_reachable.proofs.ContextLaws.{kept_body}
use Rattle.fmp_reachable.proofs.HandlerLaws.{AreMatched, Begins, Matches, all-holding}
use Rattle.fmp_reachable.proofs.TiedRooms.{AllFit, all-fit, handler-fits, task-fits}

module _ (sys : SystemTables) (bodies : List BodyTables) (rooms : HasRooms bodies) (there : HasBodies sys bodies)
    (n : ℕ) where
  -- a handler that runs awaits no reply
  abbrev pub HandlersGo : World MachineContext → Type 0
  HandlersGo w =
      (p : ℕ) (h : Handler) (k : HandlerContext (Held MachineContext)) (c : MachineContext)
      → (processor_at w.state p).handler ≡ Some h → context_at w.contexts.handlers p ≡ Some k → k.context ≡ Awaits c
      → ⊥

  abbrev pub TasksAreKept : World MachineContext → Type 0
  TasksAreKept w = (t : ℕ) → t < length sys.tasks → IsThere (context_at w.contexts.tasks t)

  module _ (w : World MachineContext) (fits : AllFit sys bodies rooms n w.contexts) (kept : TasksAreKept w)
      (matched : AreMatched sys (code_meaning bodies) w.state w.contexts) (go : HandlersGo w) where
    body-there : {P : Type 0} (o : Option BodyTables) → IsThere o → ((body : BodyTables) → o ≡ Some body → P) → P
    body-there None h f = absurd h
    body-there (Some body) h f = f body refl

    task-within : (t : ℕ) → t < length sys.tasks → (o : Option (Held MachineContext))
        → context_at w.contexts.tasks t ≡ o
        → IsThere o → IsKeptWithin bodies (task_body sys t) o
    task-within t lt None e h = absurd h
    task-within t lt (Some held) e h =
        body-there (slice_get bodies (task_body sys t)) (there.tasks t lt)
        (λ body is. task-fits sys bodies rooms n w.contexts fits t body is held e)

    -- no handler awaits a reply
    going : (p : ℕ) (h : Handler) (k : HandlerContext (Held MachineContext)) → (processor_at w.state p).handler
        ≡ Some h
        → context_at w.contexts.handlers p ≡ Some k → (held : Held MachineContext) → k.context ≡ held
        → IsHeldWithin bodies k.body held → IsGoingWithin bodies k.body held
    going p h k runs e (Goes c) same within = within
    going p h k runs e (Awaits c) same within = absurd (go p h k c runs e same)

    runs-within : (p : ℕ) (h : Handler) (k : HandlerContext (Held MachineContext))
        → (processor_at w.state p).handler ≡ Some h
        → context_at w.contexts.handlers p ≡ Some k → Begins sys p h k.body → RunsWithin sys bodies p h k
    runs-within p h k runs e b =
        record {
          own = b.own;
          start = b.start;
          starts = b.starts;
          body = b.same;
          within = body-there (slice_get bodies k.body)
              (subst (λ (j : ℕ). IsThere (slice_get bodies j)) (sym b.same) (there.handlers h b.start b.starts))
              (λ body is. going p h k runs e k.context refl
              (handler-fits sys bodies rooms n w.contexts fits p k e body is));
        }

    handler-within : (p : ℕ) (i : Option Handler) (o : Option (HandlerContext (Held MachineContext)))
        → (processor_at w.state p).handler ≡ i → context_at w.contexts.handlers p ≡ o
        → Matches sys p i (kept_body o)
        → IsHandlerWithin sys bodies p i o
    handler-within p None None r e m = tt
    handler-within p None (Some k) r e m = m
    handler-within p (Some h) None r e m = m
    handler-within p (Some h) (Some k) r e m = runs-within p h k r e m

    pub fitting-within : IsWithinRooms sys bodies w
    fitting-within =
        record {
          tasks = λ t lt. task-within t lt (context_at w.contexts.tasks t) refl (kept t lt);
          handlers = λ p. handler-within p (processor_at w.state p).handler
              (context_at w.contexts.handlers p) refl refl
              (matched.each p);
          task_places = matched.tasks;
          handler_places = matched.handlers;
        }

  module _ (es : List Event)
      (sizes : (fs : List Event)
      → HasSizes sys (run sys (code_meaning bodies) n (setup sys (code_meaning bodies)).world fs).world.state) where
    abbrev world : World MachineContext
    world = (run sys (code_meaning bodies) n (setup sys (code_meaning bodies)).world es).world

    handlers-go : HandlersGo world
    handlers-go p h k c runs e same =
        actors-free sys (code_meaning bodies) n es p (caller.Handler h) c
        (ap (λ (o : Option Handler). actor_by o (processor_at world.state p).run) runs)
        (ap (λ (o : Option (HandlerContext (Held MachineContext))). context_in o) e
        ∙ ap (λ (x : Held MachineContext). Some x) same)

    pub world-within : IsWithinRooms sys bodies world
    world-within =
        let h = all-holding sys (code_meaning bodies) n es sizes in
        fitting-within world (all-fit sys bodies rooms n es) (λ t lt. h.kept.tasks t lt) h.matched handlers-go

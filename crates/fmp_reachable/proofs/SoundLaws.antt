-- Every world that a replay on an image leaves is sound, each event keeps worlds sound, and sound worlds are readable.
use Rattle.std.proofs.Common.{◌≡◌, ◌<◌, ℕ, zero, suc, List, [], ◌∷◌, Option, Some, None, refl, sym, subst, ap, ◌∙◌}
use Rattle.std.proofs.Common.{arith}
use Rattle.std.specs.Prelude.{length, slice_get}
use Rattle.fmp_base.specs.declared.bodies.HandlerContext.{HandlerContext}
use Rattle.fmp_base.specs.declared.bodies.Held.{Held}
use Rattle.fmp_base.specs.declared.bodies.Held.TheVariants.{Goes, Awaits}
use Rattle.fmp_base.specs.declared.events.Event.{Event}
use Rattle.fmp_base.specs.declared.states.Handler.{Handler}
use Rattle.fmp_base.specs.Meanings.{Contexts, World, context_at, context_in, task_body}
use Rattle.fmp_base.specs.Ranges.{IsInRange}
use Rattle.fmp_base.specs.States.{processor_at}
use Rattle.fmp_base.specs.Steps.{Reaction, Nothing, Did, Kept, step}
use Rattle.fmp_base.specs.Systems.{SystemTables}
use Rattle.fmp_base.specs.Ties.{AllTied, HandlerTied, OptionTied}
use Rattle.fmp_image_bytes.specs.Images.{ImageTables, IsImage}
use Rattle.fmp_image_bytes.proofs.InRange.{image_in_range}
use Rattle.fmp_instructions.specs.declared.instructions.MachineContext.{MachineContext}
use Rattle.fmp_instructions.specs.Instructions.{BodyTables}
use Rattle.fmp_instructions.specs.Machine.{code_meaning}
use Rattle.fmp_replay.specs.Replays.{replay}
use Rattle.fmp_worlds.specs.Settled.{AwaitsNone}
use Rattle.fmp_reachable.specs.Readable.{IsReadable}
use Rattle.fmp_reachable.specs.Rooms.{HasBodies, HasRooms, HasSizes, IsGoingWithin, IsHandlerWithin, IsHeldWithin}
use Rattle.fmp_reachable.specs.Rooms.{IsKeptWithin, IsWithinRooms}
use Rattle.fmp_reachable.specs.Sizes.{IsWorldOfSystem}
use Rattle.fmp_reachable.specs.Sound.{IsReached, IsSound, LeavesSound}
use Rattle.fmp_reachable.proofs.ContextLaws.{kept_body}
use Rattle.fmp_reachable.proofs.HandlerLaws.{AreMatched, LeavesMatched, Matches, step-matched}
use Rattle.fmp_reachable.proofs.ImageRooms.{image-bodies, image-rooms}
use Rattle.fmp_reachable.proofs.ReadableLaws.{has-sizes, readable, sized}
use Rattle.fmp_reachable.proofs.ReplayLaws.{replays-reached}
use Rattle.fmp_reachable.proofs.TiedRooms.{AllFit, LeavesFit, Tied, step-fits}
use Rattle.fmp_reachable.proofs.WorldLaws.{LeavesReached, reached-regular, reached-sized, reached-within, step-reached}
use Rattle.fmp_reachable.proofs.WorldRooms.{fitting-within}

pub sound-readable : (sys : SystemTables) (bodies : List BodyTables) (w : World MachineContext) → IsSound sys bodies w
    → IsReadable sys bodies w
sound-readable sys bodies w h =
    let of_system : IsWorldOfSystem sys w = reached-sized sys w h.reached in
    record {
      regular = reached-regular sys w h.reached;
      rooms = h.rooms;
      sizes = sized sys w.state of_system.state (reached-within sys w h.reached);
    }

pub replay-sound : (i : ImageTables) (n : ℕ) (es : List Event) → IsImage i
    → IsSound i.system i.code (replay i n es).world
replay-sound i n es lawful =
    record {
      reached = replays-reached i n es (image_in_range i lawful);
      rooms = (readable i n es lawful).rooms;
    }

-- contexts are tied to themselves where each of them is
all-tied : {A : Type 0} (R : ℕ → A → A → Type 0) (cs : List (Option A))
    → ((t : ℕ) → t < length cs → OptionTied (R t) (context_at cs t) (context_at cs t)) → AllTied R cs cs
all-tied R [] h = tt
all-tied R (c ∷ cs) h =
    (h zero (omega arith), all-tied (λ t. R (suc t)) cs (λ t lt. h (suc t) (omega (arith, lt))))

module _ (sys : SystemTables) (bodies : List BodyTables) (rooms : HasRooms bodies) (there : HasBodies sys bodies)
    (n : ℕ) where
  -- what lies within its room fits
  held-tied : (k : ℕ) (h : Held MachineContext) → IsHeldWithin bodies k h → Tied sys bodies rooms n k h h
  held-tied k (Goes c) h = (refl, λ body is. h)
  held-tied k (Awaits c) h = (refl, λ body is. h)

  task-tied : (k : ℕ) (o : Option (Held MachineContext)) → IsKeptWithin bodies k o
      → OptionTied (Tied sys bodies rooms n k) o o
  task-tied k None h = absurd h
  task-tied k (Some held) h = held-tied k held h

  going-held : (k : ℕ) (h : Held MachineContext) → IsGoingWithin bodies k h → IsHeldWithin bodies k h
  going-held k (Goes c) h = h
  going-held k (Awaits c) h = absurd h

  handler-tied : (p : ℕ) (i : Option Handler) (o : Option (HandlerContext (Held MachineContext)))
      → IsHandlerWithin sys bodies p i o
      → OptionTied (HandlerTied (Tied sys bodies rooms n)) o o
  handler-tied p i None h = tt
  handler-tied p None (Some k) h = absurd h
  handler-tied p (Some i) (Some k) h =
      record { bodies = refl; contexts = held-tied k.body k.context (going-held k.body k.context h.within) }

  rooms-fit : (w : World MachineContext) → IsWithinRooms sys bodies w → AllFit sys bodies rooms n w.contexts
  rooms-fit w h =
      record {
        tasks = all-tied (λ t. Tied sys bodies rooms n (task_body sys t)) w.contexts.tasks
            (λ t lt. task-tied (task_body sys t) (context_at w.contexts.tasks t)
            (h.tasks t (subst (λ (m : ℕ). t < m) h.task_places lt)));
        handlers = all-tied (λ p. HandlerTied (Tied sys bodies rooms n)) w.contexts.handlers
            (λ p lt. handler-tied p (processor_at w.state p).handler (context_at w.contexts.handlers p)
            (h.handlers p));
      }

  handler-matches : (p : ℕ) (i : Option Handler) (o : Option (HandlerContext (Held MachineContext)))
      → IsHandlerWithin sys bodies p i o → Matches sys p i (kept_body o)
  handler-matches p None None h = tt
  handler-matches p None (Some k) h = h
  handler-matches p (Some i) None h = h
  handler-matches p (Some i) (Some k) h =
      record { own = h.own; start = h.start; starts = h.starts; same = h.body }

  rooms-match : (w : World MachineContext) → IsWithinRooms sys bodies w
      → AreMatched sys (code_meaning bodies) w.state w.contexts
  rooms-match w h =
      record {
        tasks = h.task_places;
        handlers = h.handler_places;
        each = λ p. handler-matches p (processor_at w.state p).handler (context_at w.contexts.handlers p)
            (h.handlers p);
      }

  not-awaiting : (c : MachineContext) (o : Option (Held MachineContext)) → o ≡ Some (Awaits c) → AwaitsNone o → ⊥
  not-awaiting c o e h = subst (λ (x : Option (Held MachineContext)). AwaitsNone x) e h

  sound-of : (w : World MachineContext) → IsReached sys w → AllFit sys bodies rooms n w.contexts
      → AreMatched sys (code_meaning bodies) w.state w.contexts → IsSound sys bodies w
  sound-of w h fits matched =
      let settled = h.settled in
      let kept = settled.kept in
      let free = settled.free in
      record {
        reached = h;
        rooms =
            fitting-within sys bodies rooms there n w fits (λ t lt. kept.tasks t lt) matched
            (λ p i k c runs e same. not-awaiting c (context_in (context_at w.contexts.handlers p))
            (ap (λ (o : Option (HandlerContext (Held MachineContext))). context_in o) e
            ∙ ap (λ (x : Held MachineContext). Some x) same) (free.handlers p));
      }

  sizes-of : (w : World MachineContext) → IsReached sys w → HasSizes sys w.state
  sizes-of w h = let of_system : IsWorldOfSystem sys w = reached-sized sys w h in has-sizes sys w.state of_system.state

  leaves-sound : (x : Reaction MachineContext) → LeavesReached sys (code_meaning bodies) x
      → LeavesFit sys bodies rooms n x → LeavesMatched sys (code_meaning bodies) x → LeavesSound sys bodies x
  leaves-sound Nothing r f m = tt
  leaves-sound (Did d) r f m = sound-of d.world r f (m (sizes-of d.world r))
  leaves-sound (Kept p v) r f m = sound-of v r f m

  pub step-sound : IsInRange sys → (w : World MachineContext) (e : Event) → IsSound sys bodies w
      → LeavesSound sys bodies (step sys (code_meaning bodies) n w e)
  step-sound range w e h =
      let settled = h.reached.settled in
      leaves-sound (step sys (code_meaning bodies) n w e)
      (step-reached sys (code_meaning bodies) range n w e h.reached)
      (step-fits sys bodies rooms n w e (rooms-fit w h.rooms))
      (step-matched sys (code_meaning bodies) n w e settled.state (sizes-of w h.reached) (rooms-match w h.rooms))

-- an event on the kernel of an image
pub image-step-sound : (i : ImageTables) (n : ℕ) → IsImage i → (w : World MachineContext) (e : Event)
    → IsSound i.system i.code w → LeavesSound i.system i.code (step i.system (code_meaning i.code) n w e)
image-step-sound i n lawful w e h =
    step-sound i.system i.code (image-rooms i lawful) (image-bodies i lawful) n (image_in_range i lawful) w e h

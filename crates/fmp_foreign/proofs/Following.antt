-- What the text has followed, put together turn by turn.
use Rattle.std.proofs.Common.{◌≡◌, ◌∙◌, ap, sym, subst, refl, ℕ, zero, suc, ◌+◌, List, [], ◌∷◌, ◌++◌, Option, Some}
use Rattle.std.proofs.Common.{None}
use Rattle.fmp_base.specs.declared.bodies.Held.{Held}
use Rattle.fmp_base.specs.declared.bodies.Held.TheVariants.{Goes, Awaits}
use Rattle.fmp_base.specs.declared.events.Event.{Event}
use Rattle.fmp_base.specs.declared.events.Event.TheVariants as event
use Rattle.fmp_base.specs.declared.states.Caller.{Caller}
use Rattle.fmp_base.specs.Meanings.{Meaning, World, caller_body, context_of}
use Rattle.fmp_base.specs.Runs.{run, run_on}
use Rattle.fmp_base.specs.Setups.{setup}
use Rattle.fmp_base.specs.States.{processor_at}
use Rattle.fmp_base.specs.Steps.{Reaction, Nothing, Did, Kept, actor_of, run_by, run_in, step, stretched, with_place}
use Rattle.fmp_base.specs.Stretches.{Ending}
use Rattle.fmp_base.specs.Systems.{SystemTables}
use Rattle.fmp_kernel.specs.KernelViews.{KernelView, view_after, view_after_all, view_of_setup}
use Rattle.fmp_outside.specs.declared.given.Given.{Given}
use Rattle.fmp_outside.specs.declared.given.Given.TheVariants as given
use Rattle.fmp_outside.specs.Keeping.{Follows, ends, keeps, does}
use Rattle.fmp_outside.specs.Outside.{IsOfText, event_of}
use Rattle.fmp_outside.proofs.KeptPlaces.{same_along}
use Rattle.fmp_worlds.specs.Stamps.{actor_at_number, going_by, going_from, world_after}
use Rattle.fmp_foreign.specs.Following.{GoesOn, HasFollowed, IsOver}
use Rattle.fmp_foreign.specs.FollowingLaws.{AgreesWith}

-- what a turn did that only kept a place
record IsKept {C : Type 0} (r : Reaction C) : Type 0 where
  place : ℕ
  world : World C
  is : r ≡ Kept place world

module _ {C : Type 0} (sys : SystemTables) (M : Meaning C) (n : ℕ) where
  abbrev worlds_after : World C → List Event → World C
  worlds_after w [] = w
  worlds_after w (e ∷ es) = worlds_after (world_after w (step sys M n w e)) es

  -- one list after the other
  joined : (w : World C) (gs hs : List Given) (es fs : List Event) → Follows sys M n w gs es
      → Follows sys M n (worlds_after w es) hs fs → Follows sys M n w (gs ++ hs) (es ++ fs)
  joined _ _ hs _ fs (ends w) k = k
  joined _ _ hs _ fs (keeps w v p q gs es e f) k =
      let here = ap (λ (r : Reaction C). worlds_after (world_after w r) es) e in
      keeps w v p q (gs ++ hs) (es ++ fs) e
      (joined v gs hs es fs f (subst (λ (u : World C). Follows sys M n u hs fs) here k))
  joined _ _ hs _ fs (does w g gs es t f) k =
      does w g (gs ++ hs) (es ++ fs) t (joined (world_after w (step sys M n w (event_of g))) gs hs es fs f k)

  over_held : (w : World C) (p : ℕ) (who : Caller) (o : Option (Held C))
      → IsOver M n (going_from (caller_body sys w.contexts p who) o) → IsKept (run_in sys M n w p who o)
  over_held w p who None h = absurd h
  over_held w p who (Some (Awaits c)) h = absurd h
  over_held w p who (Some (Goes c)) h =
      record {
        place = p;
        world = with_place w p who h.0;
        is = ap (λ (x : Ending C). stretched sys M w p who x) h.1;
      }

  over_actor : (w : World C) (p : ℕ) (o : Option Caller) → IsOver M n (going_by sys w.contexts p o)
      → IsKept (run_by sys M n w p o)
  over_actor w p None h = absurd h
  over_actor w p (Some who) h = over_held w p who (context_of w.contexts p who) h

  -- a stretch that is over its bound keeps a place
  over_keeps : (w : World C) (p : ℕ) → IsOver M n (actor_at_number sys w p) → IsKept (step sys M n w (event.Run p))
  over_keeps w zero h = absurd h
  over_keeps w (suc p) h = over_actor w p (actor_of (processor_at w.state p)) h

module _ {B C : Type 0} (meaning : B → Meaning C) where
  -- the parts of a kernel that no event changes
  record SameParts (k j : KernelView B C) : Type 0 where
    body : k.body ≡ j.body
    bound : k.bound ≡ j.bound
    system : k.system ≡ j.system

  after_one : (k : KernelView B C) (r : Reaction C) → SameParts k (view_after k r)
  after_one k Nothing = record { body = refl; bound = refl; system = refl }
  after_one k (Did d) = record { body = refl; bound = refl; system = refl }
  after_one k (Kept p w) = record { body = refl; bound = refl; system = refl }

  world_one : (k : KernelView B C) (r : Reaction C) → (view_after k r).world ≡ world_after k.world r
  world_one k Nothing = refl
  world_one k (Did d) = refl
  world_one k (Kept p w) = refl

  after_all : (k : KernelView B C) (es : List Event) → SameParts k (view_after_all meaning k es)
  after_all k [] = record { body = refl; bound = refl; system = refl }
  after_all k (e ∷ es) =
      let r = step k.system (meaning k.body) k.bound k.world e in
      let one = after_one k r in
      let rest = after_all (view_after k r) es in
      record { body = one.body ∙ rest.body; bound = one.bound ∙ rest.bound; system = one.system ∙ rest.system }

  world_all : (k : KernelView B C) (es : List Event)
      → (view_after_all meaning k es).world ≡ worlds_after k.system (meaning k.body) k.bound k.world es
  world_all k [] = refl
  world_all k (e ∷ es) = by_reaction (step k.system (meaning k.body) k.bound k.world e) (λ i. world_all i es) where
    by_reaction : (r : Reaction C)
        → ((i : KernelView B C) → (view_after_all meaning i es).world
        ≡ worlds_after i.system (meaning i.body) i.bound i.world es)
        → (view_after_all meaning (view_after k r) es).world ≡ worlds_after k.system (meaning k.body) k.bound
        (world_after k.world r) es
    by_reaction Nothing rest = rest k
    by_reaction (Did d) rest = rest (view_after k (Did d))
    by_reaction (Kept p w) rest = rest (view_after k (Kept p w))

  all_joined : (k : KernelView B C) (es fs : List Event)
      → view_after_all meaning (view_after_all meaning k es) fs ≡ view_after_all meaning k (es ++ fs)
  all_joined k [] fs = refl
  all_joined k (e ∷ es) fs = all_joined (view_after k (step k.system (meaning k.body) k.bound k.world e)) es fs

  pub nothing_yet : (k : KernelView B C) → HasFollowed meaning k [] k
  nothing_yet k = record { events = []; follows = ends k.world; kernel = refl }

  pub once : (k : KernelView B C) (g : Given) (new : KernelView B C)
      → IsOfText k.system (meaning k.body) k.bound k.world g
      → new ≡ view_after k (step k.system (meaning k.body) k.bound k.world (event_of g))
      → HasFollowed meaning k (g ∷ []) new
  once k g new t e =
      record {
        events = event_of g ∷ [];
        follows = does k.world g [] [] t (ends (world_after k.world (step k.system (meaning k.body) k.bound k.world
            (event_of g))));
        kernel = e;
      }

  -- a turn within a stretch
  turn : (k : KernelView B C) (p : ℕ) (new : KernelView B C)
      → IsKept (step k.system (meaning k.body) k.bound k.world (event.Run p))
      → new ≡ view_after k (step k.system (meaning k.body) k.bound k.world (event.Run p)) → HasFollowed meaning k [] new
  turn k p new h e =
      record {
        events = event.Run p ∷ [];
        follows = keeps k.world h.world p h.place [] [] h.is (ends h.world);
        kernel = e;
      }

  count : (k : KernelView B C) (p : ℕ) (new : KernelView B C)
      → IsKept (step k.system (meaning k.body) k.bound k.world (event.Run p))
      → new ≡ view_after k (step k.system (meaning k.body) k.bound k.world (event.Run p)) → new.taken ≡ k.taken + 1
  count k p new h e =
      ap (λ (i : KernelView B C). i.taken) e ∙ ap (λ (r : Reaction C). (view_after k r).taken) h.is

  pub within : (k : KernelView B C) (g : Given) (new : KernelView B C) → GoesOn meaning k g
      → new ≡ view_after k (step k.system (meaning k.body) k.bound k.world (event_of g)) → HasFollowed meaning k [] new
  within k (given.Act p a) new h e = turn k p new (over_keeps k.system (meaning k.body) k.bound k.world p h) e
  within k given.Tick new h e = absurd h
  within k (given.Int i) new h e = absurd h

  pub within_counts : (k : KernelView B C) (g : Given) (new : KernelView B C) → GoesOn meaning k g
      → new ≡ view_after k (step k.system (meaning k.body) k.bound k.world (event_of g)) → new.taken ≡ k.taken + 1
  within_counts k (given.Act p a) new h e = count k p new (over_keeps k.system (meaning k.body) k.bound k.world p h) e
  within_counts k given.Tick new h e = absurd h
  within_counts k (given.Int i) new h e = absurd h

  pub and_then : (old mid new : KernelView B C) (gs hs : List Given) → HasFollowed meaning old gs mid
      → HasFollowed meaning mid hs new → HasFollowed meaning old (gs ++ hs) new
  and_then old mid new gs hs a b =
      let parts = after_all old a.events in
      let M : Meaning C = meaning old.body in
      let at : mid.world ≡ worlds_after old.system M old.bound old.world a.events =
      ap (λ (i : KernelView B C). i.world) a.kernel ∙ world_all old a.events in
      let body : mid.body ≡ old.body = ap (λ (i : KernelView B C). i.body) a.kernel ∙ sym parts.body in
      let bound : mid.bound ≡ old.bound = ap (λ (i : KernelView B C). i.bound) a.kernel ∙ sym parts.bound in
      let system : mid.system ≡ old.system = ap (λ (i : KernelView B C). i.system) a.kernel ∙ sym parts.system in
      let there = subst (λ (w : World C). Follows mid.system (meaning mid.body) mid.bound w hs b.events) at b.follows in
      let same_body = subst (λ (i : B). Follows mid.system (meaning i) mid.bound
      (worlds_after old.system M old.bound old.world a.events) hs b.events) body there in
      let same_bound = subst (λ (n : ℕ). Follows mid.system M n (worlds_after old.system M old.bound old.world
      a.events) hs b.events) bound same_body in
      let same = subst (λ (s : SystemTables). Follows s M old.bound (worlds_after old.system M old.bound old.world
      a.events) hs b.events) system same_bound in
      record {
        events = a.events ++ b.events;
        follows = joined old.system M old.bound old.world gs hs a.events b.events a.follows same;
        kernel = b.kernel ∙ ap (λ (i : KernelView B C). view_after_all meaning i b.events) a.kernel
            ∙ all_joined old a.events b.events;
      }

  run-world : (k : KernelView B C) (es : List Event)
      → (view_after_all meaning k es).world ≡ (run k.system (meaning k.body) k.bound k.world es).world
  run-world k [] = refl
  run-world k (e ∷ es) = by_reaction (step k.system (meaning k.body) k.bound k.world e) (λ i. run-world i es) where
    by_reaction : (r : Reaction C)
        → ((i : KernelView B C) → (view_after_all meaning i es).world
        ≡ (run i.system (meaning i.body) i.bound i.world es).world)
        → (view_after_all meaning (view_after k r) es).world ≡ (run_on k.world r
        (λ v. run k.system (meaning k.body) k.bound v es)).world
    by_reaction Nothing rest = rest k
    by_reaction (Did d) rest = rest (view_after k (Did d))
    by_reaction (Kept p w) rest = rest (view_after k (Kept p w))

  pub agrees : {D : Type 0} (body : B) (sys : SystemTables) (F : Meaning D) (m : ℕ) (d : D) (n : ℕ) (gs : List Given)
      (k : KernelView B C) → HasFollowed meaning (view_of_setup body n sys (setup sys (meaning body))) gs k
      → AgreesWith sys F m d (meaning body) n gs k
  agrees body sys F m d n gs k h =
      let same = same_along sys F m d (meaning body) n gs h.events h.follows in
      record {
        events = h.events;
        follows = h.follows;
        same = same;
        state = same.state
            ∙ ap (λ (w : World C). w.state) (sym (run-world (view_of_setup body n sys (setup sys (meaning body)))
            h.events))
            ∙ ap (λ (i : KernelView B C). i.world.state) (sym h.kernel);
      }

-- No list of events leaves a closed set, and none leads out of a world that stands still.
use Rattle.std.proofs.Common.{ℕ, List, [], ◌∷◌, Bool, refl, sym, ◌∙◌, subst}
use Rattle.fmp_base.specs.declared.events.Event.{Event}
use Rattle.fmp_base.specs.Meanings.{Meaning, World}
use Rattle.fmp_base.specs.Runs.{Trace, run, run_on}
use Rattle.fmp_base.specs.Steps.{Reaction, Nothing, Did, Kept, step}
use Rattle.fmp_base.specs.Systems.{SystemTables}
use Rattle.fmp_bisimulation.specs.Closed.{Watch, watched, IsBlind, BothAlike, KeepsAlike, IsChained, IsCovered, LeadsIn}
use Rattle.fmp_bisimulation.specs.Closed.{IsRule, IsClosed, AreAllowed, allowed_after, anything}
use Rattle.fmp_bisimulation.specs.Still.{LeavesStill, IsStill}

module _ {C S : Type 0} (R : World C → World C → Type 0) (W : Watch S) (chained : IsChained R) (blind : IsBlind W) where
  module _ (K : World C → S → Type 0) where
    -- what is like a covered world is covered
    also-covered : (v w : World C) (a : S) → R v w → IsCovered R K w a → IsCovered R K v a
    also-covered v w a r k = record { world = k.world; alike = chained v w k.world r k.alike; kept = k.kept }

    -- where the world of the set stays and goes on with w, one like it goes on from v
    run_on-covers : (next : World C → S → Type 0) (v : World C) (a : S) (k : IsCovered R K v a) (x y : Reaction C)
        (rest : World C → Trace C)
        → BothAlike R x y → LeadsIn R W K a y → allowed_after W v a x next
        → ((t : World C) (b : S) → next t b → IsCovered R K t b
        → IsCovered R K (rest t).world (watched W b (rest t).events))
        → IsCovered R K (run_on v x rest).world (watched W a (run_on v x rest).events)
    run_on-covers next v a k Nothing Nothing rest both leads on go = go v a on k
    run_on-covers next v a k (Did c) (Did d) rest (lines, alike) leads on go =
        go c.world (W.next a c.lines) on
        (subst (λ (b : S). IsCovered R K c.world b) (sym (blind a c.lines d.lines lines))
        (also-covered c.world d.world (W.next a d.lines) alike leads))
    run_on-covers next v a k (Kept p t) (Kept q u) rest (same, alike) leads on go = go t a on
        (also-covered t u a alike leads)
    run_on-covers next v a k Nothing (Did d) rest both leads on go = absurd both
    run_on-covers next v a k Nothing (Kept q u) rest both leads on go = absurd both
    run_on-covers next v a k (Did c) Nothing rest both leads on go = absurd both
    run_on-covers next v a k (Did c) (Kept q u) rest both leads on go = absurd both
    run_on-covers next v a k (Kept p t) Nothing rest both leads on go = absurd both
    run_on-covers next v a k (Kept p t) (Did d) rest both leads on go = absurd both

    pub run-covers : (may : World C → S → Event → Bool) → IsRule R may → (sys : SystemTables) (M : Meaning C) (n : ℕ)
        → KeepsAlike R (step sys M n) → IsClosed R W may (step sys M n) K → (v : World C) (a : S) (es : List Event)
        → AreAllowed W may (step sys M n) v a es → IsCovered R K v a
        → IsCovered R K (run sys M n v es).world (watched W a (run sys M n v es).events)
    run-covers may rule sys M n keeps closed v a [] allowed k = k
    run-covers may rule sys M n keeps closed v a (e ∷ es) (now, later) k =
        run_on-covers (λ t b. AreAllowed W may (step sys M n) t b es) v a k (step sys M n v e) (step sys M n k.world e)
        (λ u. run sys M n u es) (keeps v k.world e k.alike)
        (closed k.world a e k.kept (sym (rule v k.world a e k.alike) ∙ now)) later
        (λ t b on l. run-covers may rule sys M n keeps closed t b es on l)

  module _ (turned : (v w : World C) → R v w → R w v) where
    still-same : (v w : World C) (a : S) (x y : Reaction C) → R v w → BothAlike R x y → LeavesStill R W v a x
        → LeavesStill R W w a y
    still-same v w a Nothing Nothing r both h = tt
    still-same v w a (Did c) (Did d) r (lines, alike) (h, k) = (
      chained w v d.world (turned v w r) (chained v c.world d.world h alike),
      sym (blind a c.lines d.lines lines)
          ∙ k,
    )
    still-same v w a (Kept p t) (Kept q u) r (same, alike) h = chained w v u (turned v w r) (chained v t u h alike)
    still-same v w a Nothing (Did d) r both h = absurd both
    still-same v w a Nothing (Kept q u) r both h = absurd both
    still-same v w a (Did c) Nothing r both h = absurd both
    still-same v w a (Did c) (Kept q u) r both h = absurd both
    still-same v w a (Kept p t) Nothing r both h = absurd both
    still-same v w a (Kept p t) (Did d) r both h = absurd both

    -- what is like a world that stands still stands still
    pub alike-still : (may : World C → S → Event → Bool) → IsRule R may → (go : World C → Event → Reaction C)
        → KeepsAlike R go
        → (v w : World C) (a : S) → R v w → IsStill R W may go v a → IsStill R W may go w a
    alike-still may rule go keeps v w a r h e now =
        still-same v w a (go v e) (go w e) r (keeps v w e r) (h e (rule v w a e r ∙ now))

-- what holds of each world holds after a reaction
after-any : {C S : Type 0} (W : Watch S) (w : World C) (a : S) (x : Reaction C) (next : World C → S → Type 0)
    → ((v : World C) (b : S) → next v b) → allowed_after W w a x next
after-any W w a Nothing next h = h w a
after-any W w a (Did d) next h = h d.world (W.next a d.lines)
after-any W w a (Kept p v) next h = h v a

-- any list of events is one of any events
pub all-allowed : {C S : Type 0} (W : Watch S) (go : World C → Event → Reaction C) (w : World C) (a : S)
    (es : List Event)
    → AreAllowed W anything go w a es
all-allowed W go w a [] = tt
all-allowed W go w a (e ∷ es) =
    (refl, after-any W w a (go w e) (λ v b. AreAllowed W anything go v b es) (λ v b. all-allowed W go v b es))

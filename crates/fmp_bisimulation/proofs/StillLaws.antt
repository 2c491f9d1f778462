-- No list of events leads out of a world that stands still.
use Rattle.std.proofs.Common.{◌≡◌, ℕ, List, [], ◌∷◌, Bool, refl, sym, ◌∙◌, subst}
use Rattle.fmp_base.specs.declared.events.Event.{Event}
use Rattle.fmp_base.specs.Meanings.{Meaning, World}
use Rattle.fmp_base.specs.Runs.{Trace, run, run_on}
use Rattle.fmp_base.specs.Steps.{Reaction, Nothing, Did, Kept, step}
use Rattle.fmp_base.specs.Systems.{SystemTables}
use Rattle.fmp_bisimulation.specs.Closed.{Watch, watched, IsBlind, KeepsAlike, IsChained, IsRule, AreAllowed}
use Rattle.fmp_bisimulation.specs.Closed.{allowed_after}
use Rattle.fmp_bisimulation.specs.Still.{LeavesStill, IsStill}
use Rattle.fmp_bisimulation.proofs.ClosedLaws.{alike-still}

module _ {C S : Type 0} (R : World C → World C → Type 0) (W : Watch S)
    (turned : (v w : World C) → R v w → R w v) (chained : IsChained R) (blind : IsBlind W)
    (may : World C → S → Event → Bool)
    (rule : IsRule R may) (sys : SystemTables) (M : Meaning C) (n : ℕ) (keeps : KeepsAlike R (step sys M n)) where
  -- the world is left as it was, and so is what is watched
  abbrev IsLeft : World C → S → Trace C → Type 0
  IsLeft w a r = R w r.world × (watched W a r.events ≡ a)

  left_on : (w : World C) (a : S) (x : Reaction C) (rest : World C → Trace C) (next : World C → S → Type 0)
      → LeavesStill R W w a x → IsStill R W may (step sys M n) w a → allowed_after W w a x next
      → R w w → ((t : World C) (b : S) → IsStill R W may (step sys M n) t b → R t t → next t b → IsLeft t b (rest t))
      → IsLeft w a (run_on w x rest)
  left_on w a Nothing rest next leaves still on self go = go w a still self on
  left_on w a (Did d) rest next (alike, unmoved) still on self go =
      let there : IsStill R W may (step sys M n) d.world a =
      alike-still R W chained blind turned may rule (step sys M n) keeps w d.world a alike still in
      let l = go d.world (W.next a d.lines) (subst (λ (b : S). IsStill R W may (step sys M n) d.world b)
      (sym unmoved) there)
      (chained d.world w d.world (turned w d.world alike) alike) on in
      (chained w d.world (rest d.world).world alike l.0, l.1 ∙ unmoved)
  left_on w a (Kept p v) rest next alike still on self go =
      let l = go v a (alike-still R W chained blind turned may rule (step sys M n) keeps w v a alike still)
      (chained v w v (turned w v alike) alike) on in
      (chained w v (rest v).world alike l.0, l.1)

  pub run-left : (w : World C) (a : S) (es : List Event) → R w w → IsStill R W may (step sys M n) w a
      → AreAllowed W may (step sys M n) w a es → IsLeft w a (run sys M n w es)
  run-left w a [] self still allowed = (self, refl)
  run-left w a (e ∷ es) self still (now, later) =
      left_on w a (step sys M n w e) (λ u. run sys M n u es) (λ t b. AreAllowed W may (step sys M n) t b es)
      (still e now) still later self
      (λ t b k r on. run-left t b es r k on)

-- What closed lists say of runs.
use Rattle.std.proofs.Common.{ℕ, List, Bool, refl}
use Rattle.fmp_base.specs.declared.events.Event.{Event}
use Rattle.fmp_base.specs.Meanings.{Meaning, World}
use Rattle.fmp_base.specs.Runs.{run}
use Rattle.fmp_base.specs.Setups.{setup}
use Rattle.fmp_base.specs.Steps.{step}
use Rattle.fmp_base.specs.Systems.{SystemTables}
use Rattle.fmp_worlds.proofs.SettledLaws.{setup-settled}
use Rattle.fmp_bisimulation.specs.Alike.{Alike}
use Rattle.fmp_bisimulation.specs.Closed.{AreAllowed, IsBlind, IsClosed, IsCovered, IsListed, IsRule, Seen, Watch}
use Rattle.fmp_bisimulation.specs.Closed.{anything, watched}
use Rattle.fmp_bisimulation.proofs.ClosedLaws.{all-allowed, run-covers}
use Rattle.fmp_bisimulation.proofs.StepLaws.{step-same}
use Rattle.fmp_bisimulation.proofs.WorldLaws.{worlds-refl, worlds-chained}

module _ {C S : Type 0} (sys : SystemTables) (M : Meaning C) (n : ℕ) (W : Watch S) (seen : List (Seen C S))
    (blind : IsBlind W) where
  -- this world is like one of the list
  abbrev pub IsThere : World C → S → Type 0
  IsThere w a = IsCovered (Alike sys) (IsListed seen) w a

  pub stays-there : (may : World C → S → Event → Bool) → IsRule (Alike sys) may
      → IsClosed (Alike sys) W may (step sys M n) (IsListed seen) → (v : World C) (a : S) (es : List Event)
      → AreAllowed W may (step sys M n) v a es → IsThere v a
      → IsThere (run sys M n v es).world (watched W a (run sys M n v es).events)
  stays-there may rule closed v a es allowed k =
      run-covers (Alike sys) W (worlds-chained sys) blind (IsListed seen) may rule sys M n
      (step-same sys M n) closed v a es allowed k

  pub stays-from_setup : IsClosed (Alike sys) W anything (step sys M n) (IsListed seen) → (a : S) (es : List Event)
      → IsListed seen (setup sys M).world a
      → IsThere (run sys M n (setup sys M).world es).world (watched W a (run sys M n (setup sys M).world es).events)
  stays-from_setup closed a es k =
      let w = (setup sys M).world in
      stays-there anything (λ v u b e h. refl) closed w a es (all-allowed W (step sys M n) w a es)
      (record { world = w; alike = worlds-refl sys w (setup-settled sys M); kept = k })

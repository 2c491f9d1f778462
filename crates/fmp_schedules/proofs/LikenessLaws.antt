-- Worlds that are alike but for the clock show the same to a search.
use Rattle.std.proofs.Common.{ℕ}
use Rattle.fmp_base.specs.Meanings.{Meaning, World}
use Rattle.fmp_base.specs.Steps.{Reaction, Nothing, Did, Kept, step}
use Rattle.fmp_base.specs.Systems.{SystemTables}
use Rattle.fmp_bisimulation.specs.Alike.{Alike, AlikeStates}
use Rattle.fmp_bisimulation.specs.Closed.{BothAlike}
use Rattle.fmp_bisimulation.proofs.StepLaws.{step-same}
use Rattle.fmp_bisimulation.proofs.WorldLaws.{worlds-chained}
use Rattle.fmp_schedules.specs.Likeness.{AnyFits, IsLikeness, StatesAlike}

-- what leaves alike worlds leaves alike states
pub states-alike : {C : Type 0} (sys : SystemTables) (R : World C → World C → Type 0)
    → ((v w : World C) → R v w → AlikeStates sys v.state w.state) → (x y : Reaction C) → BothAlike R x y
    → BothAlike (StatesAlike sys) x y
states-alike sys R states Nothing Nothing h = tt
states-alike sys R states (Did a) (Did b) (lines, r) = (lines, states a.world b.world r)
states-alike sys R states (Kept p v) (Kept q w) (same, r) = (same, states v w r)
states-alike sys R states Nothing (Did b) h = absurd h
states-alike sys R states Nothing (Kept q w) h = absurd h
states-alike sys R states (Did a) Nothing h = absurd h
states-alike sys R states (Did a) (Kept q w) h = absurd h
states-alike sys R states (Kept p v) Nothing h = absurd h
states-alike sys R states (Kept p v) (Did b) h = absurd h

pub alike-likeness : {C : Type 0} (sys : SystemTables) (M : Meaning C) (n : ℕ)
    → IsLikeness sys M n (Alike sys) (λ w e. AnyFits w e)
alike-likeness sys M n =
    record {
      keeps = λ v w e h fit. step-same sys M n v w e h;
      always = λ v w e h.
          states-alike sys (Alike sys) (λ x y k. k.states) (step sys M n v e) (step sys M n w e)
          (step-same sys M n v w e h);
      chained = worlds-chained sys;
      states = λ v w h. h.states;
    }

-- What an outlet is given of what a command prints, and why it is not given all.
use Rattle.std.specs.Prelude.{ℕ, List, []}
use Rattle.fmp_engine.specs.Outlets.{Given, GivenFront}
use Rattle.fmp.specs.declared.perform.CommandCut.{CommandCut}
use Rattle.fmp.specs.declared.perform.CommandCut.TheVariants.{Refused, Stopped}
use Rattle.fmp.specs.declared.perform.Exit.{Exit}

-- an outlet was given the front of a text of which this holds, and this is left of it
pub record GivesText {T : Type 0} (gave : T → T → List ℕ → Type 0) (Holds : List ℕ → Type 0) (from to : T)
    (left : List ℕ) : Type 0 where
  pub text : List ℕ
  pub holds : Holds text
  pub given : Given gave from to left text

-- Why an outlet was not given all of a text of which this holds: for this reason, and it was given nothing; or it took
-- no more.
abbrev pub IsWhyCut : {T : Type 0} → (gave stopped : T → T → List ℕ → Type 0) → (Why : Exit → Type 0)
    → (Holds : List ℕ → Type 0) → (from to : T) → CommandCut → Type 0
IsWhyCut gave stopped Why Holds from to (Refused exit) = Why exit × gave from to []
IsWhyCut gave stopped Why Holds from to Stopped = (left : List ℕ) × GivesText stopped Holds from to left

-- it took no more of a text
abbrev pub IsStopped : {T : Type 0} → (stopped : T → T → List ℕ → Type 0) → (from to : T) → (text : List ℕ) → CommandCut
    → Type 0
IsStopped stopped from to text (Refused exit) = ⊥
IsStopped stopped from to text Stopped = GivenFront stopped from to text

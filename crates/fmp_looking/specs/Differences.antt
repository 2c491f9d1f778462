-- The first event in which two runs of a system differ.
use Rattle.std.specs.Prelude.{ℕ, ◌≡◌, ◌-◌, ◌^◌, List, Option, Some, None, min, take}
use Rattle.fmp_base.specs.Meanings.{Meaning}
use Rattle.fmp_base.specs.Steps.{Reaction}
use Rattle.fmp_frames.specs.declared.comparing.ToldRun.{ToldRun}
use Rattle.fmp_frames.specs.Compares.{IsFirstDifference, difference, events_of}
use Rattle.fmp_frames.specs.Compares.{run_told}
use Rattle.fmp_frames.specs.Watches.{LeadUp}
use Rattle.fmp_kernel.specs.KernelViews.{KernelView}

module _ {B C X : Type 0} (meaning : B → Meaning C) (reaction : KernelView B C → X → Reaction C)
    (k : KernelView B C) where
  -- what a run tells of setup, and of each event of what came
  abbrev pub told_by : List X → List (List ℕ)
  told_by xs = run_told k.system meaning reaction k xs

  -- this is told of a run up to the event of a number; of all of it if it has fewer
  pub record IsToldUpTo (xs : List X) (number : ℕ) (told : ToldRun) : Type 0 where
    pub count : ℕ
    pub leads : LeadUp reaction k xs (min number (2 ^ 32 - 1)) count
    pub events : events_of told ≡ told_by (take count xs)

  -- a text shows the first event that two runs tell otherwise, and how their tasks differ then
  pub record ShowsDifference (xs ys : List X) (text : List ℕ) : Type 0 where
    pub number : ℕ
    pub first : IsFirstDifference (told_by xs) (told_by ys) (Some number)
    pub a : ToldRun
    pub b : ToldRun
    pub told_a : events_of a ≡ told_by xs
    pub told_b : events_of b ≡ told_by ys
    pub end_a : ToldRun
    pub end_b : ToldRun
    pub up_to_a : IsToldUpTo xs number end_a
    pub up_to_b : IsToldUpTo ys number end_b
    pub is : text ≡ difference a b number end_a end_b

  -- the difference of two runs: nothing is shown just where both tell the same
  abbrev pub IsDifference : (xs ys : List X) → Option (List ℕ) → Type 0
  IsDifference xs ys None = told_by xs ≡ told_by ys
  IsDifference xs ys (Some text) = ShowsDifference xs ys text

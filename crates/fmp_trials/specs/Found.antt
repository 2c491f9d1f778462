-- What the first random run that fails comes to.
use Rattle.std.specs.Prelude.{ℕ, ◌≡◌, ◌-◌, ◌<◌, ◌≤◌, Option, Some, None, true, false, length}
use Rattle.fmp_base.specs.Meanings.{Meaning}
use Rattle.fmp_trials.specs.declared.choices.RunPlan.{RunPlan}
use Rattle.fmp_trials.specs.declared.seeds.Seeds.{Seeds}
use Rattle.fmp_trials.specs.declared.testing.FailedTrial.{FailedTrial}
use Rattle.fmp_trials.specs.declared.testing.FailingSeed.{FailingSeed}
use Rattle.fmp_trials.specs.Choices.{choices_of}
use Rattle.fmp_trials.specs.Drawn.{AllHaveMet, IsRandomRun, any_of_end}
use Rattle.fmp_trials.specs.Shortening.{IsFailing}
use Rattle.fmp_trials.specs.Trials.{Breaks, IsShortest, Subject}

-- the random run of one of these seeds, which fails an expectation; where no expectation is of the end of a run, the
-- runs of the seeds before it meet all
pub record IsFailingSeed {B C J : Type 0} (meaning : B → Meaning C) (breaks : Breaks B C J) (s : Subject B C J)
    (plan : RunPlan) (seeds : Seeds) (f : FailingSeed) : Type 0 where
  pub fails : IsFailing meaning breaks s f.run
  pub run : IsRandomRun meaning s.start s.expected (choices_of plan f.seed) f.run.steps.items
  pub after : seeds.before < f.seed
  pub last : f.seed ≤ seeds.last
  pub first : any_of_end s.expected ≡ false → AllHaveMet meaning breaks s plan seeds.before (f.seed - 1)

-- what is found among seeds: the first whose run fails; where there is none, all meet all, if none is of the end
abbrev pub IsFirstFailing : {B C J : Type 0} → (B → Meaning C) → Breaks B C J → Subject B C J → RunPlan → Seeds
    → Option FailingSeed → Type 0
IsFirstFailing meaning breaks s plan seeds None =
    any_of_end s.expected ≡ false → AllHaveMet meaning breaks s plan seeds.before seeds.last
IsFirstFailing meaning breaks s plan seeds (Some f) = IsFailingSeed meaning breaks s plan seeds f

-- it was made shorter: it fails the same line; and if so is said, none of the steps that are left can be left out
pub record IsShortened {B C J : Type 0} (meaning : B → Meaning C) (breaks : Breaks B C J) (s : Subject B C J)
    (f : FailingSeed) (t : FailedTrial) : Type 0 where
  pub seed : t.seed ≡ f.seed
  pub drawn : t.drawn ≡ length f.run.steps.items
  pub line : t.run.broken.line ≡ f.run.broken.line
  pub fails : IsFailing meaning breaks s t.run
  pub shortest : t.shortest ≡ true → IsShortest meaning breaks s t.run.steps.items t.run.broken.line

-- the first random run of the seeds from 1 to the last that fails, made shorter
pub record IsFound {B C J : Type 0} (meaning : B → Meaning C) (breaks : Breaks B C J) (s : Subject B C J)
    (plan : RunPlan) (last : ℕ) (t : FailedTrial) : Type 0 where
  pub failing : FailingSeed
  pub is : IsFailingSeed meaning breaks s plan (record { before = 0; last = last }) failing
  pub shortened : IsShortened meaning breaks s failing t

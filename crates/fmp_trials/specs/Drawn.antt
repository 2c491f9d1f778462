-- What a random run comes to, which is cut off after as many events as are planned.
use Rattle.std.specs.Prelude.{ℕ, ◌≡◌, ◌^◌, ◌<◌, ◌≤◌, List, [], Option, None, Bool, true, false, is_some}
use Rattle.std.specs.Prelude.{length, min, take}
use Rattle.std.specs.List.{list_any}
use Rattle.fmp_base.specs.declared.events.Event.{Event}
use Rattle.fmp_base.specs.Meanings.{Meaning}
use Rattle.fmp_expect.specs.declared.checker.BrokenExpectation.{BrokenExpectation}
use Rattle.fmp_expect.specs.declared.expectation.Expected.{Expected}
use Rattle.fmp_expect.specs.Meaning.{first_broken}
use Rattle.fmp_expect.specs.Runs.{run_told}
use Rattle.fmp_kernel.specs.Comings.{reaction_of, view_after_each}
use Rattle.fmp_kernel.specs.KernelViews.{KernelView}
use Rattle.fmp_monitors.specs.declared.sentence.Sentence.{Sentence}
use Rattle.fmp_monitors.specs.declared.sentence.Sentence.TheVariants as sentence
use Rattle.fmp_trials.specs.declared.random_run.RandomRun.{RandomRun}
use Rattle.fmp_trials.specs.declared.choices.Choices.{Choices}
use Rattle.fmp_trials.specs.declared.choices.RunPlan.{RunPlan}
use Rattle.fmp_trials.specs.Choices.{AreDrawn, choices_of}
use Rattle.fmp_trials.specs.Taking.{TakesAll}
use Rattle.fmp_trials.specs.Trials.{Breaks, Subject, broken_by}

-- the first of the expectations that the run over these events breaks by what it shows; the states of tasks at its end
-- are not known
abbrev pub broken_so_far : {B C : Type 0} → (B → Meaning C) → (start : KernelView B C) → List Expected → List Event
    → Option BrokenExpectation
broken_so_far meaning start xs es =
    first_broken xs (run_told (reaction_of meaning) start es) [] (view_after_each (reaction_of meaning) start es).done

-- The random run that choices make: each event is what comes next, and is taken. It goes up to the first event that
-- breaks an expectation, or else has as many events as are planned, up to 2^20.
pub record IsRandomRun {B C : Type 0} (meaning : B → Meaning C) (start : KernelView B C) (xs : List Expected)
    (c : Choices) (es : List Event) : Type 0 where
  pub drawn : AreDrawn meaning start c es
  pub taken : TakesAll meaning start es
  pub few : length es ≤ min c.plan.events (2 ^ 20)
  pub unbroken : (n : ℕ) → n < length es → broken_so_far meaning start xs (take n es) ≡ None
  pub whole : broken_so_far meaning start xs es ≡ None → length es ≡ min c.plan.events (2 ^ 20)

-- the same, and whether it breaks an expectation
pub record IsDrawn {B C : Type 0} (meaning : B → Meaning C) (start : KernelView B C) (xs : List Expected) (c : Choices)
    (run : RandomRun) : Type 0 where
  pub is : IsRandomRun meaning start xs c run.steps.items
  pub broken : run.is_broken ≡ is_some (broken_so_far meaning start xs run.steps.items)

-- an expectation of the end of a run
abbrev pub is_of_end : Sentence → Bool
is_of_end (sentence.End s t) = true
is_of_end _ = false

-- one of the expectations is of the end of a run
abbrev pub any_of_end : List Expected → Bool
any_of_end xs = list_any (λ x. is_of_end x.sentence) xs

-- the random run of a seed has as many events as are planned, and meets all expectations
pub record HasMet {B C J : Type 0} (meaning : B → Meaning C) (breaks : Breaks B C J) (s : Subject B C J)
    (plan : RunPlan) (seed : ℕ) : Type 0 where
  pub steps : List Event
  pub run : IsRandomRun meaning s.start s.expected (choices_of plan seed) steps
  pub whole : length steps ≡ min plan.events (2 ^ 20)
  pub met : broken_by meaning breaks s steps ≡ None

-- so do those of all seeds after this one up to the last
abbrev pub AllHaveMet : {B C J : Type 0} → (B → Meaning C) → Breaks B C J → Subject B C J → RunPlan
    → (before last : ℕ) → Type 0
AllHaveMet meaning breaks s plan before last =
    (seed : ℕ) → before < seed → seed ≤ last → HasMet meaning breaks s plan seed

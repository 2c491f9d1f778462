-- What a run of a kernel comes to, where something is expected of it.
use Rattle.std.specs.Prelude.{ℕ, ◌≡◌, ◌==◌, List, Option, Bool, Ok, not, ◌||◌, ◌&&◌, is_some, length}
use Rattle.fmp_base.specs.Steps.{Reaction}
use Rattle.fmp_expect.specs.declared.checker.BrokenExpectation.{BrokenExpectation}
use Rattle.fmp_expect.specs.declared.expectation.Expected.{Expected}
use Rattle.fmp_expect.specs.Grammar.{expectations_of}
use Rattle.fmp_expect.specs.Meaning.{empty_lines}
use Rattle.fmp_expect.specs.Runs.{run_told}
use Rattle.fmp_kernel.specs.KernelViews.{KernelView}
use Rattle.fmp_trials.specs.Verdicts.{verdict}

-- the lines of the expectations that say nothing of the run, since what they speak of never comes
abbrev pub empty_claims : {B C X : Type 0} → (KernelView B C → X → Reaction C) → KernelView B C → List X → List Expected
    → List ℕ
empty_claims reaction k xs expected = empty_lines expected (run_told reaction k xs)

-- whether a run fails a text of which it breaks this, and of which these lines say nothing of it: strictly, it fails
-- those lines too
abbrev pub fails_text : (strict : Bool) → Option BrokenExpectation → (empty : List ℕ) → Bool
fails_text strict broken empty = is_some broken || (strict && not (length empty == 0))

-- this is whether a run fails the expectations of a text
pub record IsJudgedBy {B C X : Type 0} (text : List ℕ) (strict : Bool) (reaction : KernelView B C → X → Reaction C)
    (k : KernelView B C) (xs : List X) (fails : Bool) : Type 0 where
  pub expected : List Expected
  pub read : expectations_of k.system text ≡ Ok expected
  pub judged : fails ≡ fails_text strict (verdict reaction k xs expected) (empty_claims reaction k xs expected)

-- What the calls of runs were answered, one run after the other.
use Rattle.std.proofs.Common.{◌≡◌, ◌∙◌, ℕ, ◌+◌, List, [], ◌∷◌, ◌++◌, ap, arith, length, refl, subst, sym}
use Rattle.fmp_base.specs.declared.events.Event.{Event}
use Rattle.fmp_image_bytes.specs.Images.{ImageTables}
use Rattle.fmp_instructions.specs.Machine.{code_meaning}
use Rattle.fmp_frames.specs.declared.answers.SiteAnswer.{SiteAnswer}
use Rattle.fmp_frames.specs.Answers.{answers_in}
use Rattle.fmp_expect.specs.declared.expectation.Expected.{Expected}
use Rattle.fmp_frames.specs.declared.positioned_lines.LineForm.{LineForm}
use Rattle.fmp_replay.specs.Replays.{kernel_after}
use Rattle.fmp_trials.specs.declared.choices.RunPlan.{RunPlan}
use Rattle.fmp_trials.specs.Choices.{choices_of}
use Rattle.fmp_trials.specs.Drawn.{IsRandomRun}
use Rattle.fmp_looking.specs.declared.wanted.ImageTest.{ImageTest}
use Rattle.fmp_looking.specs.Covered.{IsTestRun}
use Rattle.fmp_looking.specs.Tested.{plan_in}
use Rattle.fmp_looking.specs.TestRefusals.{AreAnswersOf, AreRefusedLines, answers_after, with_answers}
use Rattle.fmp_looking.proofs.TrialRuns.{all_and, one_longer}

abbrev answers_to : ImageTables → (n : ℕ) → List Event → List SiteAnswer
answers_to i n es = answers_in code_meaning (kernel_after i n []) es (length i.system.tasks)

runs_and : (i : ImageTables) (n : ℕ) (known : List SiteAnswer) (runs : List (List Event)) (es : List Event)
    → answers_after i n known (runs ++ es ∷ []) ≡ with_answers (answers_after i n known runs) (answers_to i n es)
runs_and i n known [] es = refl
runs_and i n known (run ∷ runs) es = runs_and i n (with_answers known (answers_to i n run)) runs es

from_none : (count : ℕ) → count + 1 ≡ 0 + count + 1
from_none count = omega arith

module _ (P : (seed : ℕ) → List Event → Type 0) where
  -- before any run
  pub none_answered : (i : ImageTables) (n : ℕ) (known : List SiteAnswer) → known ≡ [] → AreAnswersOf P i n 0 known
  none_answered i n known none = record { runs = []; made = tt; many = refl; answers = none }

  -- after one run more
  pub one_answered : (i : ImageTables) (n count : ℕ) (known more next : List SiteAnswer) (es : List Event)
      → AreAnswersOf P i n count known → P (count + 1) es → more ≡ answers_to i n es → next ≡ with_answers known more
      → AreAnswersOf P i n (count + 1) next
  one_answered i n count known more next es h made is so =
      record {
        runs = h.runs ++ es ∷ [];
        made = all_and P 0 count h.runs es h.made h.many (subst (λ (seed : ℕ). P seed es) (from_none count) made);
        many = one_longer h.runs es ∙ ap (λ (k : ℕ). k + 1) h.many;
        answers =
            so
            ∙ ap (λ (a : List SiteAnswer). with_answers known a) is
            ∙ ap (λ (k : List SiteAnswer). with_answers k (answers_to i n es)) h.answers
            ∙ sym (runs_and i n [] h.runs es);
      }

  -- as many as there are to be
  pub as_many : (i : ImageTables) (n count all : ℕ) (known : List SiteAnswer) → count ≡ all
      → AreAnswersOf P i n count known → AreAnswersOf P i n all known
  as_many i n count all known is h =
      record { runs = h.runs; made = h.made; many = h.many ∙ is; answers = h.answers }

-- the runs of a test, by other names of what is expected and of their plan
pub refused_of_test : (t : ImageTest) (form : LineForm) (file src : List ℕ) (last : ℕ) (out : List ℕ)
    (xs ys : List Expected) (plan : RunPlan) → xs ≡ ys → plan ≡ plan_in t
    → AreRefusedLines
    (λ seed es. IsRandomRun code_meaning (kernel_after t.image.now t.testing.bound []) xs (choices_of plan seed) es)
    form file src t.image.now t.testing.bound last out
    → AreRefusedLines (IsTestRun t ys) form file src t.image.now t.testing.bound last out
refused_of_test t form file src last out xs ys plan is same h =
    subst
    (λ (zs : List Expected).
    AreRefusedLines
    (λ seed es.
    IsRandomRun code_meaning (kernel_after t.image.now t.testing.bound []) zs (choices_of (plan_in t) seed) es) form
    file src t.image.now t.testing.bound last out) is
    (subst
    (λ (p : RunPlan).
    AreRefusedLines
    (λ seed es. IsRandomRun code_meaning (kernel_after t.image.now t.testing.bound []) xs (choices_of p seed) es) form
    file src t.image.now t.testing.bound last out) same h)

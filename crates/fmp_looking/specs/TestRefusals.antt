-- The calls that are refused in random runs of an image.
use Rattle.std.specs.Prelude.{ℕ, ◌≡◌, Bool, true, false, List, [], ◌∷◌, Ok, length}
use Rattle.fmp_base.specs.declared.events.Event.{Event}
use Rattle.fmp_base.specs.Systems.{tables_of}
use Rattle.fmp_expect.specs.declared.expectation.Expected.{Expected}
use Rattle.fmp_expect.specs.CallSentences.{other_sentences_of}
use Rattle.fmp_image_bytes.specs.Images.{ImageTables}
use Rattle.fmp_instructions.specs.Machine.{code_meaning}
use Rattle.fmp_frames.specs.declared.answers.SiteAnswer.{SiteAnswer}
use Rattle.fmp_frames.specs.declared.call_positions.CallPosition.{CallPosition}
use Rattle.fmp_frames.specs.declared.positioned_lines.LineForm.{LineForm}
use Rattle.fmp_frames.specs.declared.positioned_lines.LineForm.TheVariants as form
use Rattle.fmp_frames.specs.Answers.{answers_in, with_answer}
use Rattle.fmp_frames.specs.CallPositions.{AreCallsOf}
use Rattle.fmp_frames.specs.Refusals.{refused_calls}
use Rattle.fmp_looking.specs.declared.wanted.TestTexts.{TestTexts}
use Rattle.fmp_looking.specs.declared.wanted.ImageTest.{ImageTest}
use Rattle.fmp_looking.specs.Covered.{AreMadeAfter, IsTestRun}
use Rattle.fmp_looking.specs.Refused.{refused_lines}
use Rattle.fmp_replay.specs.Replays.{kernel_after}

-- lines are for readers, or objects of JSON
abbrev pub form_of : (is_json : Bool) → LineForm
form_of false = form.Text
form_of true = form.Record

-- each call with each code that it got, once: more answers
abbrev pub with_answers : List SiteAnswer → List SiteAnswer → List SiteAnswer
with_answers known [] = known
with_answers known (a ∷ more) = with_answers (with_answer known a.site a.code) more

-- what the calls of these runs of an image were answered, beside what was known
abbrev pub answers_after : ImageTables → (n : ℕ) → List SiteAnswer → List (List Event) → List SiteAnswer
answers_after i n known [] = known
answers_after i n known (es ∷ runs) =
    answers_after i n
    (with_answers known (answers_in code_meaning (kernel_after i n []) es (length i.system.tasks))) runs

-- the calls of the runs of an image of the seeds from 1 to this one were answered this
pub record AreAnswersOf (IsMade : (seed : ℕ) → List Event → Type 0) (i : ImageTables) (n last : ℕ)
    (known : List SiteAnswer) : Type 0 where
  pub runs : List (List Event)
  pub made : AreMadeAfter IsMade 0 runs
  pub many : length runs ≡ last
  pub answers : known ≡ answers_after i n [] runs

-- a line of this form for each call that is refused in such runs, by where it stands in this text of its bodies in a
-- file
pub record AreRefusedLines (IsMade : (seed : ℕ) → List Event → Type 0) (written : LineForm) (file src : List ℕ)
    (i : ImageTables) (n last : ℕ) (out : List ℕ) : Type 0 where
  pub bodies : List (List CallPosition)
  pub calls : AreCallsOf src bodies
  pub answers : List SiteAnswer
  pub are : AreAnswersOf IsMade i n last answers
  pub text : out ≡ refused_lines written file i.code bodies (refused_calls i.code answers)

-- the same of random runs of a test, which go by the expectations of a text that are not about calls
pub record AreTestRefusals (t : ImageTest) (texts : TestTexts) (last : ℕ) (out : List ℕ) : Type 0 where
  pub expected : List Expected
  pub read : other_sentences_of (tables_of t.configured.now) texts.expectations.now ≡ Ok expected
  pub lines :
      AreRefusedLines (IsTestRun t expected) (form_of t.testing.json) t.testing.src.now texts.src.now t.image.now
      t.testing.bound last out

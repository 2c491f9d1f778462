-- What random runs come to, where the sentences and the run are known by other names.
use Rattle.std.proofs.Common.{◌≡◌, ◌∙◌, ℕ, List, [], ap, subst, sym}
use Rattle.fmp_base.specs.Systems.{SystemTables}
use Rattle.fmp_expect.specs.declared.expectation.Expected.{Expected}
use Rattle.fmp_image_bytes.specs.Images.{ImageTables}
use Rattle.fmp_instructions.specs.Machine.{code_meaning}
use Rattle.fmp_kernel.specs.Comings.{reaction_of}
use Rattle.fmp_replay.specs.Replays.{kernel_after}
use Rattle.fmp_trace.specs.Steps.{steps_text}
use Rattle.fmp_trials.specs.declared.testing.FailedTrial.{FailedTrial}
use Rattle.fmp_trials.specs.declared.choices.RunPlan.{RunPlan}
use Rattle.fmp_trials.specs.Drawn.{AllHaveMet}
use Rattle.fmp_trials.specs.Found.{IsFound}
use Rattle.fmp_looking.specs.declared.call_sentences.CallNever.{CallNever}
use Rattle.fmp_looking.specs.declared.call_sentences.RunSentences.{RunSentences}
use Rattle.fmp_looking.specs.declared.reporting.FailedTest.{FailedTest}
use Rattle.fmp_looking.specs.CallSentences.{AreSentencesOf, breaks_by}
use Rattle.fmp_looking.specs.Looks.{ShowsBroken}
use Rattle.fmp_looking.specs.Tested.{HaveMetText, IsFailedTest, subject_of}

pub is_failed : (i : ImageTables) (bound : ℕ) (plan : RunPlan) (seeds : ℕ) (src name text : List ℕ)
    (sys : SystemTables) (sentences : RunSentences) (expected : List Expected)
    (nevers : List CallNever) (trial : FailedTrial) (t : FailedTest)
    → AreSentencesOf i sys src text sentences → expected ≡ sentences.expected.items → nevers ≡ sentences.nevers.items
    → IsFound code_meaning breaks_by (subject_of i bound expected nevers) plan seeds trial → t.trial ≡ trial
    → t.steps.items ≡ steps_text trial.run.steps.items
    → ShowsBroken (reaction_of code_meaning) (kernel_after i bound []) trial.run.steps.items name text trial.run.broken
    t.report.items
    → IsFailedTest i sys bound plan seeds src name text t
is_failed i bound plan seeds src name text sys sentences expected nevers trial t read alike same found is printed
    reported =
    record {
      sentences = sentences;
      read = read;
      found =
          subst
          (λ (x : FailedTrial). IsFound code_meaning breaks_by
          (subject_of i bound sentences.expected.items sentences.nevers.items) plan seeds x) (sym is)
          (subst
          (λ (ns : List CallNever). IsFound code_meaning breaks_by (subject_of i bound sentences.expected.items ns)
          plan seeds trial)
          same
          (subst
          (λ (es : List Expected). IsFound code_meaning breaks_by (subject_of i bound es nevers) plan seeds trial)
          alike found));
      printed = printed ∙ ap (λ (x : FailedTrial). steps_text x.run.steps.items) (sym is);
      reported =
          subst
          (λ (x : FailedTrial). ShowsBroken (reaction_of code_meaning) (kernel_after i bound []) x.run.steps.items
          name text x.run.broken t.report.items) (sym is) reported;
    }

pub have_met : (i : ImageTables) (bound : ℕ) (plan : RunPlan) (seeds : ℕ) (src text : List ℕ) (sys : SystemTables)
    (sentences : RunSentences) (expected : List Expected) (nevers : List CallNever)
    → AreSentencesOf i sys src text sentences → expected ≡ sentences.expected.items → nevers ≡ sentences.nevers.items
    → AllHaveMet code_meaning breaks_by (subject_of i bound expected nevers) plan 0 seeds
    → HaveMetText i sys bound plan seeds src text
have_met i bound plan seeds src text sys sentences expected nevers read alike same met =
    record {
      sentences = sentences;
      read = read;
      met =
          subst
          (λ (ns : List CallNever). AllHaveMet code_meaning breaks_by (subject_of i bound sentences.expected.items ns)
          plan 0 seeds)
          same
          (subst
          (λ (es : List Expected). AllHaveMet code_meaning breaks_by (subject_of i bound es nevers) plan 0 seeds)
          alike met);
    }

-- What a test of an image comes to.
use Rattle.std.specs.Prelude.{◌≡◌, ◌+◌, ◌<◌, ℕ, IfOk, List, [], Option, Result, length, slice_index_or}
use Rattle.fmp_base.specs.Systems.{SystemTables}
use Rattle.fmp_expect.specs.declared.expectation.Expected.{Expected}
use Rattle.fmp_image_bytes.specs.Images.{ImageTables}
use Rattle.fmp_instructions.specs.declared.instructions.MachineContext.{MachineContext}
use Rattle.fmp_instructions.specs.Instructions.{BodyTables}
use Rattle.fmp_instructions.specs.Machine.{code_meaning}
use Rattle.fmp_kernel.specs.Comings.{reaction_of}
use Rattle.fmp_replay.specs.Replays.{kernel_after}
use Rattle.fmp_trace.specs.Steps.{steps_text}
use Rattle.fmp_trials.specs.declared.choices.RunPlan.{RunPlan}
use Rattle.fmp_trials.specs.declared.seeds.Seeds.{Seeds}
use Rattle.fmp_trials.specs.declared.testing.FailingSeed.{FailingSeed}
use Rattle.fmp_trials.specs.Drawn.{AllHaveMet}
use Rattle.fmp_trials.specs.Found.{IsFirstFailing, IsFound}
use Rattle.fmp_trials.specs.Parts.{edge}
use Rattle.fmp_trials.specs.Trials.{Subject}
use Rattle.fmp_looking.specs.declared.call_sentences.CallNever.{CallNever}
use Rattle.fmp_looking.specs.declared.call_sentences.RunSentences.{RunSentences}
use Rattle.fmp_looking.specs.declared.reporting.FailedTest.{FailedTest}
use Rattle.fmp_looking.specs.declared.trying.Trials.{Trials}
use Rattle.fmp_looking.specs.declared.wanted.ImageTest.{ImageTest}
use Rattle.fmp_looking.specs.CallSentences.{AreSentencesOf, JudgeTables, breaks_by, judge_of}
use Rattle.fmp_looking.specs.Looks.{ShowsBroken}

-- runs of an image from setup, which are to meet these expectations and these sentences about calls
abbrev pub subject_of : ImageTables → (bound : ℕ) → List Expected → List CallNever
    → Subject (List BodyTables) MachineContext JudgeTables
subject_of i n expected nevers =
    record { start = kernel_after i n []; expected = expected; judge = judge_of i nevers }

-- the same of trials
abbrev pub subject_in : Trials → Subject (List BodyTables) MachineContext JudgeTables
subject_in t =
    record {
      start = kernel_after t.opened.image.now t.opened.bound [];
      expected = t.expected.now;
      judge = t.judge.now;
    }

-- how the random runs of a test go
abbrev pub plan_in : ImageTest → RunPlan
plan_in t = record { events = t.testing.events; tick = t.testing.tick; interrupts = t.rates }

-- what is found among the seeds after one up to another
abbrev pub IsFirstOf : Trials → (before last : ℕ) → Option FailingSeed → Type 0
IsFirstOf t before last found =
    IsFirstFailing code_meaning breaks_by (subject_in t) t.plan (record { before = before; last = last }) found

-- the same of each part of seeds, where they are cut into this many
abbrev pub AreFirstOf : {E : Type 0} → Trials → Seeds → (parts : ℕ) → List (Result (Option FailingSeed) E) → Type 0
AreFirstOf {E} t seeds parts found =
    (length found ≡ parts)
    × ((k : ℕ) (d : Result (Option FailingSeed) E) → k < parts
    → IfOk (slice_index_or found k d) (IsFirstOf t (edge seeds parts k) (edge seeds parts (k + 1))))

-- the first of the random runs of this many seeds, of an image whose bodies have this text, that fails a sentence of a
-- text in a file of this name: its steps are printed, and its report shows the sentence and the event
pub record IsFailedTest (i : ImageTables) (configured : SystemTables) (bound : ℕ) (plan : RunPlan) (seeds : ℕ)
    (src name text : List ℕ) (t : FailedTest) : Type 0 where
  pub sentences : RunSentences
  pub read : AreSentencesOf i configured src text sentences
  pub found :
      IsFound code_meaning breaks_by (subject_of i bound sentences.expected.items sentences.nevers.items) plan
      seeds t.trial
  pub printed : t.steps.items ≡ steps_text t.trial.run.steps.items
  pub reported :
      ShowsBroken (reaction_of code_meaning) (kernel_after i bound []) t.trial.run.steps.items name text
      t.trial.run.broken t.report.items

-- the random runs of this many seeds meet all sentences of a text
pub record HaveMetText (i : ImageTables) (configured : SystemTables) (bound : ℕ) (plan : RunPlan) (seeds : ℕ)
    (src text : List ℕ) : Type 0 where
  pub sentences : RunSentences
  pub read : AreSentencesOf i configured src text sentences
  pub met :
      AllHaveMet code_meaning breaks_by (subject_of i bound sentences.expected.items sentences.nevers.items) plan 0
      seeds

-- Whether a run of an image meets a text of which some sentences are about calls, where the text of its bodies is
-- given.
use Rattle.std.specs.Prelude.{ℕ, ◌≡◌, List, [], Bool, map}
use Rattle.fmp_base.specs.declared.events.Event.{Event}
use Rattle.fmp_image_bytes.specs.Images.{ImageTables}
use Rattle.fmp_instructions.specs.Machine.{code_meaning}
use Rattle.fmp_kernel.specs.Comings.{reaction_of}
use Rattle.fmp_replay.specs.Replays.{kernel_after}
use Rattle.fmp_trials.specs.Trials.{broken_by}
use Rattle.fmp_looking.specs.declared.call_sentences.RunSentences.{RunSentences}
use Rattle.fmp_looking.specs.declared.judging.JudgementForm.{JudgementForm}
use Rattle.fmp_looking.specs.declared.source_expecting.SourceExpectations.{SourceExpectations}
use Rattle.fmp_looking.specs.CallSentences.{AreNamedSentences, breaks_by, judge_of}
use Rattle.fmp_looking.specs.Expects.{empty_claims, fails_text}
use Rattle.fmp_looking.specs.Judgements.{IsTold, judged_by_each, named_by}
use Rattle.fmp_looking.specs.Tested.{subject_of}

-- whether the run over these events fails these sentences; strictly, it also fails those that say nothing of it
abbrev pub fails_sentences : ImageTables → (bound : ℕ) → List Event → (strict : Bool) → RunSentences → Bool
fails_sentences i n es strict s =
    fails_text strict
    (broken_by code_meaning breaks_by (subject_of i n s.expected.items s.nevers.items) es)
    (empty_claims (reaction_of code_meaning) (kernel_after i n []) es s.expected.items)

-- this is whether it fails the sentences of a text
pub record IsSourceVerdict (i : ImageTables) (n : ℕ) (es : List Event) (sourced : SourceExpectations) (fails : Bool)
    : Type 0 where
  pub sentences : RunSentences
  pub read : AreNamedSentences i sourced.src.now sourced.expectations.text.now sentences
  pub judged : fails ≡ fails_sentences i n es sourced.expectations.strict sentences

-- this tells in a form how it does by each sentence of a text alone
pub record AreSourceJudgements (i : ImageTables) (n : ℕ) (es : List Event) (sourced : SourceExpectations)
    (form : JudgementForm) (out : List ℕ) : Type 0 where
  pub sentences : RunSentences
  pub read : AreNamedSentences i sourced.src.now sourced.expectations.text.now sentences
  pub told :
      IsTold form sourced.expectations.name.now sourced.expectations.strict
      (map (named_by sourced.expectations.text.now)
      (judged_by_each (kernel_after i n []) (judge_of i) es sentences)) out

-- How a run does by each expectation of a text alone, and how that is told.
use Rattle.std.specs.Prelude.{ℕ, ◌≡◌, ◌==◌, Bool, true, false, not, ◌||◌, ◌&&◌, List, [], ◌∷◌, ◌++◌}
use Rattle.std.specs.Prelude.{Ok, Option, Some, None, codes, filter, if◌then◌else◌, is_some, length, map, nat_eq}
use Rattle.std.specs.Prelude.{string_bytes}
use Rattle.std.specs.List.{flat_map}
use Rattle.std.specs.Str.Lossy.{utf8_lossy}
use Rattle.json.specs.Token.{Token}
use Rattle.fmp_base.specs.declared.events.Event.{Event}
use Rattle.fmp_base.specs.Steps.{Reaction}
use Rattle.fmp_base.specs.Systems.{SystemTables}
use Rattle.fmp_expect.specs.declared.checker.BrokenExpectation.{BrokenExpectation}
use Rattle.fmp_expect.specs.declared.expectation.Expected.{Expected}
use Rattle.fmp_expect.specs.declared.call_sentences.CallSentence.{CallSentence}
use Rattle.fmp_expect.specs.CallSentences.{call_sentences_of, other_sentences_of}
use Rattle.fmp_json.specs.declared.junit.TestCase.{TestCase}
use Rattle.fmp_json.specs.declared.junit.TestSuite.{TestSuite}
use Rattle.fmp_json.specs.Junit.{is_error, is_failure, report_text}
use Rattle.fmp_json.specs.Members.{number_member, object_line, text_member}
use Rattle.fmp_expect.specs.Grammar.{expectations_of}
use Rattle.fmp_expect.specs.Judges.{broken_along}
use Rattle.fmp_instructions.specs.declared.instructions.MachineContext.{MachineContext}
use Rattle.fmp_instructions.specs.Instructions.{BodyTables}
use Rattle.fmp_instructions.specs.Machine.{code_meaning}
use Rattle.fmp_kernel.specs.Comings.{reaction_of}
use Rattle.fmp_kernel.specs.KernelViews.{KernelView}
use Rattle.fmp_trials.specs.Verdicts.{verdict}
use Rattle.fmp_looking.specs.declared.call_sentences.CallNever.{CallNever}
use Rattle.fmp_looking.specs.declared.call_sentences.RunSentences.{RunSentences}
use Rattle.fmp_looking.specs.declared.judged.Judged.{Judged}
use Rattle.fmp_looking.specs.declared.judged_cases.JudgedCase.{JudgedCase}
use Rattle.fmp_looking.specs.declared.judging.Judgement.{Judgement}
use Rattle.fmp_looking.specs.declared.judging.JudgementForm.{JudgementForm}
use Rattle.fmp_looking.specs.declared.judging.JudgementForm.TheVariants as form
use Rattle.fmp_looking.specs.CallSentences.{JudgeTables, breaks_by}
use Rattle.fmp_looking.specs.Expects.{empty_claims}
use Rattle.fmp_expect.specs.Words.{line_at}

-- how a run does by one expectation alone
abbrev pub judged_by : {B C X : Type 0} → (KernelView B C → X → Reaction C) → KernelView B C → List X → Expected
    → Judgement
judged_by reaction k xs one =
    record {
      line = one.line;
      broken = verdict reaction k xs (one ∷ []);
      is_empty = not (length (empty_claims reaction k xs (one ∷ [])) == 0);
    }

-- how a run does by one sentence about calls, where this is the judge by what such sentences say of calls
abbrev pub judged_by_call : KernelView (List BodyTables) MachineContext → (judge : List CallNever → JudgeTables)
    → List Event → List CallNever → CallSentence → Judgement
judged_by_call k judge es nevers p =
    record {
      line = p.line;
      broken =
          broken_along (breaks_by (judge (filter (λ n. nat_eq n.line p.line) nevers))) (reaction_of code_meaning) k es;
      is_empty = false;
    }

-- how it does by each sentence of a text alone: by those about calls last
abbrev pub judged_by_each : KernelView (List BodyTables) MachineContext → (judge : List CallNever → JudgeTables)
    → List Event → RunSentences → List Judgement
judged_by_each k judge es s =
    map (judged_by (reaction_of code_meaning) k es) s.expected.items
    ++ map (judged_by_call k judge es s.nevers.items) s.of_calls.items

-- what is broken, if it stands in this line
abbrev pub broken_in : (line : ℕ) → Option BrokenExpectation → Option BrokenExpectation
broken_in line None = None
broken_in line (Some b) = if b.line == line then Some b else None

-- how random runs do by the expectation in a line, of which one breaks this, if one does
abbrev pub tested_by : Option BrokenExpectation → (line : ℕ) → Judgement
tested_by broken n = record { line = n; broken = broken_in n broken; is_empty = false }

-- the lines of expectations, and then those of sentences about calls
abbrev pub lines_of : List Expected → List CallSentence → List ℕ
lines_of expected sentences = map (λ x. x.line) expected ++ map (λ s. s.line) sentences

-- the same of a text
pub record AreLinesOf (sys : SystemTables) (text lines : List ℕ) : Type 0 where
  pub expected : List Expected
  pub read : other_sentences_of sys text ≡ Ok expected
  pub are : lines ≡ lines_of expected (call_sentences_of sys text)

-- a run fails an expectation; strictly, also one that says nothing of it
abbrev pub fails : (strict : Bool) → Judgement → Bool
fails strict j = is_some j.broken || (strict && j.is_empty)

-- a judgement with the text of its line
pub record NamedJudgement : Type 0 where
  pub judgement : Judgement
  pub name : List ℕ

abbrev pub named_by : (text : List ℕ) → Judgement → NamedJudgement
named_by text j = record { judgement = j; name = utf8_lossy (line_at text j.line) }

abbrev pub named_case : JudgedCase → NamedJudgement
named_case c = record { judgement = c.judgement; name = string_bytes c.name }

-- a test as it is told: its name, its line, whether it failed, and whether that is not known
abbrev pub told_test : TestCase → List ℕ × ℕ × Bool × Bool
told_test t = (t.name.now, t.line, is_failure t.verdict, is_error t.verdict)

abbrev pub wanted_test : (strict : Bool) → NamedJudgement → List ℕ × ℕ × Bool × Bool
wanted_test strict n = (n.name, n.judgement.line, fails strict n.judgement, false)

-- a report in the XML of JUnit: one suite of this name, which has these tests
pub record IsSuiteReport (name : List ℕ) (tests : List TestCase) (out : List ℕ) : Type 0 where
  pub suite : TestSuite
  pub named : suite.name.now ≡ name
  pub tests_are : suite.cases.now ≡ tests
  pub text : out ≡ report_text (suite ∷ [])

-- the same with a test for each judgement
pub record IsReport (name : List ℕ) (strict : Bool) (js : List NamedJudgement) (out : List ℕ) : Type 0 where
  pub tests : List TestCase
  pub are : map told_test tests ≡ map (wanted_test strict) js
  pub report : IsSuiteReport name tests out

-- how a run does by an expectation, in a word
abbrev pub verdict_word : Option BrokenExpectation → (is_empty : Bool) → List ℕ
verdict_word (Some broken) is_empty = codes "fails"
verdict_word None true = codes "empty"
verdict_word None false = codes "holds"

abbrev pub event_members : Option BrokenExpectation → List Token
event_members None = []
event_members (Some broken) = number_member (codes "event") broken.event

-- a judgement: the file, the line and the text of its expectation, the verdict, and the event if there is one
abbrev pub judgement_members : (file text : List ℕ) → Judgement → List Token
judgement_members file text j =
    text_member (codes "file") file
    ++ (number_member (codes "line") j.line
    ++ (text_member (codes "expectation") text
    ++ (text_member (codes "verdict") (verdict_word j.broken j.is_empty) ++ event_members j.broken)))

-- the same as an object of JSON in a line
abbrev pub judgement_record : (file text : List ℕ) → Judgement → List ℕ
judgement_record file text j = object_line (judgement_members file text j)

abbrev pub named_record : (file : List ℕ) → NamedJudgement → List ℕ
named_record file n = judgement_record file n.name n.judgement

-- judgements told in a form: as a report of tests, or as an object of JSON for each
abbrev pub IsTold : JudgementForm → (name : List ℕ) → (strict : Bool) → List NamedJudgement → (out : List ℕ) → Type 0
IsTold form.Junit name strict js out = IsReport name strict js out
IsTold form.Records name strict js out = out ≡ flat_map (named_record name) js

-- this tells in a form how a run does by each expectation of a text alone
pub record AreJudgements {B C X : Type 0} (judged : Judged) (reaction : KernelView B C → X → Reaction C)
    (k : KernelView B C) (xs : List X) (out : List ℕ) : Type 0 where
  pub expected : List Expected
  pub read : expectations_of k.system judged.expectations.text.now ≡ Ok expected
  pub told :
      IsTold judged.form judged.expectations.name.now judged.expectations.strict
      (map (named_by judged.expectations.text.now) (map (judged_by reaction k xs) expected)) out

-- a report of random runs that were judged by a text of expectations: only what one of them breaks fails
pub record IsTestReport
    (sys : SystemTables) (name text : List ℕ) (broken : Option BrokenExpectation) (out : List ℕ) : Type 0 where
  pub lines : List ℕ
  pub are : AreLinesOf sys text lines
  pub report : IsReport name false (map (named_by text) (map (tested_by broken) lines)) out

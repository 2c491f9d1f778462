-- A search as a report of tests.
use Rattle.std.specs.Prelude.{ℕ, ◌≡◌, ◌+◌, ◌++◌, ◌==◌, List, [], ◌∷◌, Bool, true, false, ◌&&◌, ◌||◌, Option, Some}
use Rattle.std.specs.Prelude.{None, length, map, nat_lt, slice_get, if◌then◌else◌}
use Rattle.std.specs.List.{flat_map}
use Rattle.fmp_expect.specs.declared.call_sentences.CallSentence.{CallSentence}
use Rattle.fmp_expect.specs.declared.expectation.Expected.{Expected}
use Rattle.fmp_explore.specs.declared.exploring.Report.{Report}
use Rattle.fmp_json.specs.declared.junit.TestCase.{TestCase}
use Rattle.fmp_json.specs.declared.junit.TestSuite.{TestSuite}
use Rattle.fmp_json.specs.Junit.{is_error, is_failure, report_text}
use Rattle.fmp_question.specs.declared.question.Question.{Question}
use Rattle.fmp_schedules.specs.declared.monitor.Monitor.{Monitor}
use Rattle.fmp_searching.specs.Claims.{is_done}
use Rattle.fmp_searching.specs.Parts.{never_parts}
use Rattle.fmp_searching.specs.Seen.{is_broken}
use Rattle.fmp_searching.specs.Sources.{SourceTables}
use Rattle.fmp_searching.specs.Unsaid.{is_unsaid, is_complete}
use Rattle.fmp_searching.specs.declared.seen.Seen.{Seen}
use Rattle.fmp_searching.specs.declared.seen.SeenKind.{SeenKind}
use Rattle.fmp_searching.specs.declared.seen.SeenKind.TheVariants as kind
use Rattle.fmp_searching.specs.declared.judging.JudgedTest.{JudgedTest}
use Rattle.fmp_searching.specs.declared.judging.TestOutcome.{TestOutcome}
use Rattle.fmp_searching.specs.declared.judging.TestOutcome.TheVariants as outcome

-- the first of these findings that breaks what is asked, of which the first has this place
abbrev pub first_of : SeenKind → (place : ℕ) → List Seen → Option ℕ
first_of asked place [] = None
first_of asked place (s ∷ seen) = if is_broken asked s then Some place else first_of asked (place + 1) seen

-- the search is over with what is asked: stuck tasks were looked for, or every state was examined
abbrev pub is_over : SeenKind → Report → Bool
is_over kind.Stuck r = is_done r.stuck_search
is_over _ r = r.holds || (is_complete r.ending && nat_lt 0 (length r.findings.items))

-- the sentence at a place says nothing
abbrev pub is_unsaid_by : Option Monitor → (came : Option Bool) → Bool
is_unsaid_by (Some m) (Some came) = is_unsaid m.subject came
is_unsaid_by None came = false
is_unsaid_by (Some m) None = false

abbrev pub is_unsaid_at : Question → Report → (place : ℕ) → Bool
is_unsaid_at q r place =
    is_complete r.ending && is_unsaid_by (slice_get q.monitors.items place) (slice_get r.premises.items place)

abbrev pub is_unsaid_kind : SeenKind → Question → Report → Bool
is_unsaid_kind (kind.Alone place) q r = is_unsaid_at q r place
is_unsaid_kind (kind.Sentence place) q r = is_unsaid_at q r place
is_unsaid_kind kind.Never q r = false
is_unsaid_kind (kind.CallSentence place) q r = false
is_unsaid_kind kind.Fault q r = false
is_unsaid_kind kind.Deadlock q r = false
is_unsaid_kind kind.Endless q r = false
is_unsaid_kind kind.Stuck q r = false

-- what came of what is asked: by the first finding that breaks it, whether it says nothing and that counts, and whether
-- the search is over with it
abbrev pub outcome_by : (first : Option ℕ) → (unsaid over : Bool) → TestOutcome
outcome_by (Some place) unsaid over = outcome.Broken place
outcome_by None true over = outcome.Unsaid
outcome_by None false true = outcome.Passed
outcome_by None false false = outcome.Unknown

abbrev pub outcome_of : (strict : Bool) → Question → Report → List Seen → SeenKind → TestOutcome
outcome_of strict q r seen asked =
    outcome_by (first_of asked 0 seen) (strict && is_unsaid_kind asked q r) (is_over asked r)

abbrev pub fails : TestOutcome → Bool
fails (outcome.Broken place) = true
fails outcome.Unsaid = true
fails outcome.Passed = false
fails outcome.Unknown = false

abbrev pub is_unknown : TestOutcome → Bool
is_unknown outcome.Unknown = true
is_unknown (outcome.Broken place) = false
is_unknown outcome.Unsaid = false
is_unknown outcome.Passed = false

-- a test as it is counted: its line, whether it failed, and whether that is not known
abbrev pub counted_test : TestCase → ℕ × Bool × Bool
counted_test t = (t.line, is_failure t.verdict, is_error t.verdict)

abbrev pub wanted_test : JudgedTest → ℕ × Bool × Bool
wanted_test t = (t.line, fails t.outcome, is_unknown t.outcome)

abbrev pub counted_suite : TestSuite → List (ℕ × Bool × Bool)
counted_suite s = map counted_test s.cases.now

-- what came of what each test asks is so
abbrev pub AreJudged : (strict : Bool) → Question → Report → List Seen → List JudgedTest → Type 0
AreJudged strict q r seen tests =
    map (λ t. t.outcome) tests ≡ map (λ t. outcome_of strict q r seen t.kind) tests

-- a report of suites whose tests are counted so
pub record IsReportOf (counted : List (ℕ × Bool × Bool)) (out : List ℕ) : Type 0 where
  pub suites : List TestSuite
  pub are : flat_map counted_suite suites ≡ counted
  pub text : out ≡ report_text suites

-- ---- what is asked

-- a line comes after one, and before another if there is one
abbrev pub is_between : (after : ℕ) → (before : Option ℕ) → (line : ℕ) → Bool
is_between after None line = nat_lt after line
is_between after (Some before) line = nat_lt after line && nat_lt line before

-- the sentences about calls between two lines, where the first has this place
abbrev pub calls_between : (after : ℕ) → (before : Option ℕ) → (place : ℕ) → List CallSentence → List SeenKind
calls_between after before place [] = []
calls_between after before place (s ∷ ss) =
    (if is_between after before s.line then kind.CallSentence place ∷ [] else [])
    ++ calls_between after before (place + 1) ss

-- the sentences of a file in the order of their lines: these, where the first has this place, and those about calls
-- that stand after a line
abbrev pub sentence_kinds : List CallSentence → (place after : ℕ) → List Expected → List SeenKind
sentence_kinds calls place after [] = calls_between after None 0 calls
sentence_kinds calls place after (x ∷ xs) =
    calls_between after (Some x.line) 0 calls ++ (kind.Sentence place ∷ sentence_kinds calls (place + 1) x.line xs)

-- the sections, where the first of these monitors has this place
abbrev pub section_kinds : (sections place : ℕ) → List Monitor → List SeenKind
section_kinds sections place [] = []
section_kinds sections place (m ∷ ms) =
    (if nat_lt place sections then kind.Alone place ∷ [] else []) ++ section_kinds sections (place + 1) ms

-- what must never happen by the command line, if anything but faults must
abbrev pub never_kinds : SourceTables → List SeenKind
never_kinds s = if nat_lt 0 (length (never_parts s.claim s.nevers_at)) then kind.Never ∷ [] else []

abbrev pub last_kinds : List SeenKind
last_kinds = kind.Deadlock ∷ kind.Fault ∷ kind.Endless ∷ kind.Stuck ∷ []

-- what is asked beside the sentences of the file
abbrev pub other_kinds : SourceTables → List SeenKind
other_kinds s =
    never_kinds s ++ (section_kinds s.sections 0 s.claim.question.monitors.items ++ last_kinds)

-- all that is asked, each once
abbrev pub asked_kinds : SourceTables → List SeenKind
asked_kinds s =
    (if nat_lt 0 (length s.file) then sentence_kinds s.call_sentences s.sections 0 s.expected else [])
    ++ other_kinds s

-- a report in the XML of JUnit: there is a test for all that is asked, which is judged by the findings of a search, and
-- fails where one breaks it
pub record IsTestReport (s : SourceTables) (r : Report) (seen : List Seen) (out : List ℕ) : Type 0 where
  pub tests : List JudgedTest
  pub asked : map (λ t. t.kind) tests ≡ asked_kinds s
  pub judged : AreJudged s.strict s.claim.question r seen tests
  pub suites : List TestSuite
  pub counted : flat_map counted_suite suites ≡ map wanted_test tests
  pub text : out ≡ report_text suites

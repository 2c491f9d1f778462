-- What is said of what the steps of a finding leave.
use Rattle.std.specs.Prelude.{ℕ, ℤ, ◌≡◌, ◌-◌, ◌⊎◌, List, [], ◌∷◌, ◌++◌, Bool, true, false, Option, Some, None, codes}
use Rattle.std.specs.Prelude.{decimal}
use Rattle.std.specs.Prelude.{length, nat_lt, option_map, slice_get, take, if◌then◌else◌}
use Rattle.std.specs.Fmt.{signed_decimal}
use Rattle.std.specs.List.{flat_map}
use Rattle.fmp_base.specs.Codes.{code_name}
use Rattle.fmp_base.specs.Systems.{SystemTables}
use Rattle.fmp_base.specs.Texts.{lines_text, task_name}
use Rattle.fmp_base.specs.declared.events.Line.{Line}
use Rattle.fmp_expect.specs.declared.call_sentences.CallSentence.{CallSentence}
use Rattle.fmp_monitors.specs.declared.sentence.Sentence.{Sentence}
use Rattle.fmp_monitors.specs.declared.sentence.Sentence.TheVariants as sentence
use Rattle.fmp_monitors.specs.declared.standing.Standing.{Standing}
use Rattle.fmp_monitors.specs.declared.standing.Standing.TheVariants as standing
use Rattle.fmp_question.specs.declared.site.CallSite.{CallSite}
use Rattle.fmp_schedules.specs.declared.monitor.Monitor.{Monitor}
use Rattle.fmp_schedules.specs.declared.monitor.MonitorSubject.{MonitorSubject}
use Rattle.fmp_schedules.specs.declared.monitor.MonitorSubject.TheVariants as subject
use Rattle.fmp_witness.specs.declared.finding.FindingKind.{FindingKind}
use Rattle.fmp_witness.specs.declared.finding.FindingKind.TheVariants as finding
use Rattle.fmp_witness.specs.declared.finding.SentenceBreach.{SentenceBreach}
use Rattle.fmp_witness.specs.declared.started.Started.{Started}
use Rattle.fmp_searching.specs.Extent.{said_text, value_of}
use Rattle.fmp_searching.specs.Findings.{position_text}
use Rattle.fmp_searching.specs.Sites.{line_of}
use Rattle.fmp_searching.specs.Sources.{SourceTables}

-- a line of the trace, without its line feed
unfoldable pub told_text : SystemTables → (number : ℕ) → Line → List ℕ
told_text sys number l = take (length (lines_text sys number (l ∷ [])) - 1) (lines_text sys number (l ∷ []))

abbrev pub line_text : SystemTables → (number : ℕ) → Option Line → List ℕ
line_text sys number None = []
line_text sys number (Some l) = told_text sys number l

-- ---- deadlocks, and bodies that go on for ever

-- the call in which a task waits, if it does
abbrev pub waits_text : SourceTables → Option CallSite → List ℕ
waits_text s None = []
waits_text s (Some site) =
    codes " (" ++ (position_text s.src (line_of s.claim.image.code s.claim.bodies site) ++ codes ")")

abbrev pub started_text : SourceTables → Started → List ℕ
started_text s x = task_name s.claim.image.system x.task ++ waits_text s x.waits

abbrev pub more_started : SourceTables → List Started → List ℕ
more_started s xs = flat_map (λ x. codes ", " ++ started_text s x) xs

abbrev pub deadlock_text : SourceTables → List Started → List ℕ
deadlock_text s [] = []
deadlock_text s (x ∷ xs) = codes "deadlock of " ++ (started_text s x ++ more_started s xs)

unfoldable pub endless_text : (processor : ℕ) → List ℕ
endless_text p = codes "processor " ++ (decimal p ++ codes " goes on for ever without a call")

-- ---- sentences

-- task t is in the section between these values
unfoldable pub between_text : SystemTables → (t : ℕ) → (enters leaves : ℤ) → List ℕ
between_text sys t enters leaves =
    codes ": while "
    ++ (task_name sys t
    ++ (codes " is between put("
    ++ (signed_decimal enters ++ (codes ") and put(" ++ (signed_decimal leaves ++ codes ")")))))

abbrev pub section_holder : SystemTables → (t : ℕ) → Sentence → List ℕ
section_holder sys t (sentence.OneAtATime a b) = between_text sys t (value_of a.deed) (value_of b.deed)
section_holder sys t _ = []

abbrev pub subject_holder : SystemTables → (t : ℕ) → MonitorSubject → List ℕ
subject_holder sys t (subject.Sentence e) = section_holder sys t e
subject_holder sys t (subject.Limit x) = []

-- who is in the section that a task entered
abbrev pub holder_text : SystemTables → MonitorSubject → Standing → List ℕ
holder_text sys m (standing.Inside t) = subject_holder sys t m
holder_text sys m _ = []

abbrev pub section_breach : SystemTables → Standing → Option Monitor → List ℕ
section_breach sys st None = []
section_breach sys st (Some m) = holder_text sys m.subject st

-- who is inside, where a sentence of the file is about that
abbrev pub inside_text : SystemTables → Standing → List ℕ
inside_text sys (standing.Inside t) = codes ": while " ++ (task_name sys t ++ codes " is inside")
inside_text sys _ = []

abbrev pub broken_text : SourceTables → (place : ℕ) → Standing → List ℕ
broken_text s place st =
    codes ": " ++ (said_text s [] (slice_get s.expected place) ++ inside_text s.claim.image.system st)

-- which sentence a line broke, and how
abbrev pub breach_text : SourceTables → SentenceBreach → List ℕ
breach_text s b =
    if nat_lt b.monitor s.sections
    then section_breach s.claim.image.system b.breach.standing (slice_get s.claim.question.monitors.items b.monitor)
    else broken_text s (b.monitor - s.sections) b.breach.standing

-- what is said of what the steps of a finding leave: the last step has this number and told these lines, and these
-- tasks are started then
abbrev pub left_text : SourceTables → FindingKind → (number : ℕ) → List Line → List Started → List ℕ
left_text s (finding.Line place) number told started = line_text s.claim.image.system number (slice_get told place)
left_text s finding.Deadlock number told started = deadlock_text s started
left_text s (finding.Endless p) number told started = endless_text p
left_text s (finding.Breach b) number told started =
    line_text s.claim.image.system number (slice_get told b.breach.place) ++ breach_text s b
left_text s (finding.State place) number told started = said_text s [] (slice_get s.expected (place - s.sections))
left_text s (finding.Stuck t) number told started = []

-- ---- sentences about calls

abbrev pub by_text : SystemTables → (task : Option ℕ) → List ℕ
by_text sys None = []
by_text sys (Some t) = codes " by " ++ task_name sys t

unfoldable pub never_text : SourceTables → CallSentence → List ℕ
never_text s n =
    codes ": "
    ++ (s.file
    ++ (codes ":"
    ++ (decimal n.line
    ++ (codes ": never "
    ++ (code_name n.code ++ (by_text s.claim.image.system n.by ++ (codes " at " ++ decimal n.at)))))))

abbrev pub call_sentence_text : SourceTables → Option CallSentence → List ℕ
call_sentence_text s None = []
call_sentence_text s (Some n) = never_text s n

-- the first of these sentences about calls, which are broken
abbrev pub first_broken : SourceTables → (places : List ℕ) → List ℕ
first_broken s [] = []
first_broken s (place ∷ places) = call_sentence_text s (slice_get s.call_sentences place)

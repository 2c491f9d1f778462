-- The by-products of a search, for other programs: objects of JSON, one a line.
use Rattle.std.specs.Prelude.{ℕ, ◌≡◌, List, [], ◌++◌, Bool, Option, Some, None, codes, map, if◌then◌else◌}
use Rattle.std.specs.List.{flat_map}
use Rattle.std.specs.Str.Lossy.{utf8_lossy}
use Rattle.fmp_base.specs.Codes.{code_name}
use Rattle.fmp_base.specs.Names.{name_text}
use Rattle.fmp_base.specs.Systems.{SystemTables}
use Rattle.fmp_base.specs.declared.codes.Er.{Er}
use Rattle.fmp_base.specs.declared.names.Name.{Name}
use Rattle.fmp_explore.specs.declared.exploring.Report.{Report}
use Rattle.fmp_explore.specs.declared.values.Variety.{Variety}
use Rattle.fmp_frames.specs.CallPositions.{position_of}
use Rattle.fmp_frames.specs.RefusalLines.{refused_record}
use Rattle.fmp_frames.specs.Refusals.{Refused, refused_calls}
use Rattle.fmp_json.specs.Members.{list_begin, list_end, number_member, object_line, text_member}
use Rattle.fmp_monitors.specs.declared.sentence.Sentence.{Sentence}
use Rattle.fmp_question.specs.declared.site.CallSite.{CallSite}
use Rattle.fmp_schedules.specs.declared.monitor.Monitor.{Monitor}
use Rattle.fmp_schedules.specs.declared.monitor.MonitorSubject.{MonitorSubject}
use Rattle.fmp_schedules.specs.declared.monitor.MonitorSubject.TheVariants as subject
use Rattle.fmp_searching.specs.Extent.{is_varied, most_values, varied_name, words_of}
use Rattle.fmp_searching.specs.Lines.{numbered}
use Rattle.fmp_searching.specs.Made.{AnsweredCall, answered_calls, answers_of_calls, unmade_calls}
use Rattle.fmp_searching.specs.Members.{call_position, number_or_none, position_members, string_tokens}
use Rattle.fmp_searching.specs.Sources.{SourceTables}
use Rattle.fmp_searching.specs.Unsaid.{is_unsaid, is_complete}
use Rattle.fmp_searching.specs.Varied.{line_at}
use Rattle.json.specs.Token.{Token}

-- the sentence at a place, which says nothing
abbrev pub nothing_record : SourceTables → (place : ℕ) → Sentence → List ℕ
nothing_record s place e =
    object_line
    (text_member (codes "what") (codes "never_happens")
    ++ (number_or_none (codes "sentence") (line_at s.sections s.expected place)
    ++ text_member (codes "text") (utf8_lossy (words_of s.claim.configured e))))

abbrev pub subject_record : SourceTables → (place : ℕ) → MonitorSubject → List ℕ
subject_record s place (subject.Limit x) = []
subject_record s place (subject.Sentence e) = nothing_record s place e

abbrev pub unsaid_record : SourceTables → (place : ℕ) → Monitor → (came : Bool) → List ℕ
unsaid_record s place m came = if is_unsaid m.subject came then subject_record s place m.subject else []

abbrev pub unsaid_records : SourceTables → Report → List ℕ
unsaid_records s r =
    if is_complete r.ending
    then numbered (λ place m came. unsaid_record s place m came) 0 s.claim.question.monitors.items r.premises.items
    else []

-- a call that was never made
abbrev pub unmade_record : SourceTables → CallSite → List ℕ
unmade_record s site =
    object_line
    (text_member (codes "what") (codes "never_made") ++ position_members (Some (call_position s site)))

abbrev pub code_tokens : List Er → List Token
code_tokens answers = string_tokens (map (λ c. code_name c) answers)

-- the codes that a call got
abbrev pub answered_record : AnsweredCall → List ℕ
answered_record call =
    object_line
    (text_member (codes "what") (codes "answers")
    ++ (number_member (codes "line") call.line
    ++ (number_member (codes "column") call.column
    ++ (list_begin (codes "answers") ++ (code_tokens call.answers ++ list_end)))))

abbrev pub asked_records : SourceTables → List AnsweredCall → List ℕ
asked_records s calls = if s.answers then flat_map (λ call. answered_record call) calls else []

-- a call that is refused
abbrev pub refused_line : SourceTables → Refused → List ℕ
refused_line s r = refused_record (position_of s.claim.image.code s.positions r.site.body r.site.pc) r

-- what a name is of, and a number if there is one
abbrev pub named_record : (what name : List ℕ) → Option ℕ → List ℕ
named_record what name value =
    object_line
    (text_member (codes "what") what
    ++ (text_member (codes "name") (utf8_lossy name) ++ number_or_none (codes "value") value))

abbrev pub unrun_record : Name → (ran : Bool) → List ℕ
unrun_record name ran = if ran then [] else named_record (codes "never_run") (name_text name) None

abbrev pub unrun_records : SystemTables → Report → List ℕ
unrun_records sys r =
    numbered (λ t x ran. unrun_record x.name ran) 0 sys.tasks r.coverage.runs.tasks.items
    ++ numbered (λ c x ran. unrun_record x.name ran) 0 sys.cyclics r.coverage.runs.cyclics.items

abbrev pub peak_record : (what : List ℕ) → Name → (most : ℕ) → List ℕ
peak_record what name most = named_record what (name_text name) (Some most)

-- the greatest length of each data queue and each mailbox
abbrev pub length_records : SystemTables → Report → List ℕ
length_records sys r =
    numbered (λ i x most. peak_record (codes "greatest_length") x.name most) 0 sys.data_queues
    r.coverage.peaks.words.items
    ++ numbered (λ i x most. peak_record (codes "greatest_length") x.name most) 0 sys.mailboxes
    r.coverage.peaks.messages.items

abbrev pub peak_records : SystemTables → Report → List ℕ
peak_records sys r =
    numbered (λ i x most. peak_record (codes "greatest_count") x.name most) 0 sys.semaphores
    r.coverage.peaks.counts.items
    ++ length_records sys r

abbrev pub varied_record : SourceTables → (most : ℕ) → Variety → List ℕ
varied_record s most v =
    if is_varied most v then named_record (codes "values") (varied_name s v.what) (Some v.values) else []

abbrev pub varied_records : SourceTables → List Variety → List ℕ
varied_records s vs = flat_map (λ v. varied_record s (most_values vs) v) vs

-- the calls that were never made, those that are asked for with their answers, and those that are refused
abbrev pub call_records : SourceTables → List CallSite → List AnsweredCall → List Refused → List ℕ
call_records s unmade answered refused =
    flat_map (λ site. unmade_record s site) unmade
    ++ (asked_records s answered ++ flat_map (λ x. refused_line s x) refused)

-- what never ran, the greatest counts and lengths, and the most varied fields
abbrev pub row_records : SourceTables → Report → List ℕ
row_records s r =
    unrun_records s.claim.image.system r
    ++ (peak_records s.claim.image.system r ++ varied_records s r.varieties.items)

abbrev pub coverage_records : SourceTables → Report → List CallSite → List AnsweredCall → List Refused → List ℕ
coverage_records s r unmade answered refused =
    unsaid_records s r ++ (call_records s unmade answered refused ++ row_records s r)

-- the by-products of a search: the calls that were not made, answered or refused are those of its states
abbrev pub covered_records : SourceTables → Report → List ℕ
covered_records s r =
    let code = s.claim.image.code in
    coverage_records s r (unmade_calls r.coverage code) (answered_calls r.coverage code s.positions)
    (refused_calls code (answers_of_calls r.coverage code))

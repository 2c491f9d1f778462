-- What is printed below the end of a search: what its sentences came to, how far it went, and its by-products.
use Rattle.std.specs.Prelude.{ℕ, ◌≡◌, ◌-◌, ◌/◌, List, [], ◌++◌, Bool, ◌&&◌, Option, Some, None, codes, decimal}
use Rattle.std.specs.Prelude.{length, max, nat_eq, nat_le, nat_lt, slice_get, take, ℤ, pos, if◌then◌else◌}
use Rattle.std.specs.Fmt.{signed_decimal}
use Rattle.std.specs.List.{flat_map, fold}
use Rattle.fmp_base.specs.Names.{name_text}
use Rattle.fmp_base.specs.Systems.{SystemTables}
use Rattle.fmp_base.specs.declared.names.Name.{Name}
use Rattle.fmp_expect.specs.declared.expectation.Expected.{Expected}
use Rattle.fmp_explore.specs.declared.exploring.Report.{Report}
use Rattle.fmp_explore.specs.declared.values.Varied.{Varied}
use Rattle.fmp_explore.specs.declared.values.Varied.TheVariants as varied
use Rattle.fmp_explore.specs.declared.values.Variety.{Variety}
use Rattle.fmp_frames.specs.CallPositions.{position_of}
use Rattle.fmp_frames.specs.RefusalLines.{refused_text}
use Rattle.fmp_frames.specs.Refusals.{Refused, refused_calls}
use Rattle.fmp_frames.specs.declared.call_positions.CallPosition.{CallPosition}
use Rattle.fmp_monitors.specs.declared.happening.ExpectedDeed.{ExpectedDeed}
use Rattle.fmp_monitors.specs.declared.happening.ExpectedDeed.TheVariants as deed
use Rattle.fmp_monitors.specs.declared.happening.Happening.{Happening}
use Rattle.fmp_monitors.specs.declared.sentence.Sentence.{Sentence}
use Rattle.fmp_monitors.specs.declared.sentence.Sentence.TheVariants as sentence
use Rattle.fmp_question.specs.declared.site.CallSite.{CallSite}
use Rattle.fmp_schedules.specs.declared.monitor.Monitor.{Monitor}
use Rattle.fmp_schedules.specs.declared.monitor.MonitorSubject.{MonitorSubject}
use Rattle.fmp_schedules.specs.declared.monitor.MonitorSubject.TheVariants as subject
use Rattle.fmp_searching.specs.Answers.{answers_text}
use Rattle.fmp_searching.specs.FieldNames.{field_name}
use Rattle.fmp_searching.specs.Fields.{counts_queued}
use Rattle.fmp_searching.specs.Lines.{numbered}
use Rattle.fmp_searching.specs.Made.{AnsweredCall, answered_calls, answers_of_calls, unmade_calls}
use Rattle.fmp_searching.specs.Sentences.{sentence_text}
use Rattle.fmp_searching.specs.Sources.{SourceTables}
use Rattle.fmp_searching.specs.Unsaid.{is_unsaid, is_complete}
use Rattle.fmp_searching.specs.Varied.{kept_name}

-- ---- sentences that say nothing

-- a sentence without the comma and the blank after it
abbrev pub words_of : SystemTables → Sentence → List ℕ
words_of sys e = take (length (sentence_text sys e) - 2) (sentence_text sys e)

-- a sentence of the file with its line, after what is said of it
abbrev pub said_text : SourceTables → (of : List ℕ) → Option Expected → List ℕ
said_text s of None = []
said_text s of (Some x) =
    s.file
    ++ (codes ":" ++ (decimal x.line ++ (codes ": " ++ (of ++ words_of s.claim.configured x.sentence))))

abbrev pub value_of : ExpectedDeed → ℤ
value_of (deed.Put value) = value
value_of _ = pos 0

-- no task enters a section
unfoldable pub unentered_text : (enters leaves : ℤ) → List ℕ
unentered_text enters leaves =
    codes "--alone "
    ++ (signed_decimal enters
    ++ (codes ","
    ++ (signed_decimal leaves
    ++ (codes ": never happens at all: put(" ++ (signed_decimal enters ++ codes ") by a task\n")))))

abbrev pub section_text : Sentence → List ℕ
section_text (sentence.OneAtATime a b) = unentered_text (value_of a.deed) (value_of b.deed)
section_text _ = []

abbrev pub nothing_text : SourceTables → (place : ℕ) → MonitorSubject → List ℕ
nothing_text s place (subject.Limit x) = []
nothing_text s place (subject.Sentence e) =
    if nat_lt place s.sections
    then section_text e
    else said_text s (codes "never happens at all: ") (slice_get s.expected (place - s.sections)) ++ codes "\n"

abbrev pub unsaid_line : SourceTables → (place : ℕ) → Monitor → (came : Bool) → List ℕ
unsaid_line s place m came = if is_unsaid m.subject came then nothing_text s place m.subject else []

-- the sentences that say nothing, where every state was examined
abbrev pub unsaid_text : SourceTables → Report → List ℕ
unsaid_text s r =
    if is_complete r.ending
    then numbered (λ place m came. unsaid_line s place m came) 0 s.claim.question.monitors.items r.premises.items
    else []

-- ---- how far the search went

unfoldable pub plural : ℕ → List ℕ
plural n = if nat_eq n 1 then [] else codes "s"

unfoldable pub extent_line : (states events depth : ℕ) → List ℕ
extent_line states events depth =
    decimal states
    ++ (codes " state"
    ++ (plural states
    ++ (codes ", "
    ++ (decimal events
    ++ (codes " event" ++ (plural events ++ (codes ", " ++ (decimal depth ++ codes " deep\n"))))))))

abbrev pub waits_line : Bool → List ℕ
waits_line waits = if waits then codes "a task waits for an interrupt\n" else []

-- ---- calls

abbrev pub column_text : Option CallPosition → List ℕ
column_text None = []
column_text (Some p) = codes ":" ++ (decimal p.line ++ (codes ":" ++ decimal p.column))

abbrev pub call_text : SourceTables → CallSite → List ℕ
call_text s site = s.src ++ column_text (position_of s.claim.image.code s.positions site.body site.pc)

unfoldable pub unmade_line : SourceTables → CallSite → List ℕ
unmade_line s site = codes "call never made: " ++ (call_text s site ++ codes "\n")

unfoldable pub count_line : ℕ → List ℕ
count_line count = codes "calls never made so far: " ++ (decimal count ++ codes "\n")

-- the calls that were never made; of a search that ended early how many
abbrev pub unmade_text : SourceTables → (whole : Bool) → List CallSite → List ℕ
unmade_text s whole sites =
    if whole
    then flat_map (λ site. unmade_line s site) sites
    else (if nat_eq (length sites) 0 then [] else count_line (length sites))

abbrev pub asked_answers : SourceTables → List AnsweredCall → List ℕ
asked_answers s calls = if s.answers then answers_text s.src calls else []

abbrev pub refused_line : SourceTables → Refused → List ℕ
refused_line s r =
    refused_text s.src (position_of s.claim.image.code s.positions r.site.body r.site.pc) r

-- ---- tasks and objects

-- a line of these words after a title, if there are any
abbrev pub row_text : (title words : List ℕ) → List ℕ
row_text title words = if nat_lt 0 (length words) then title ++ (words ++ codes "\n") else []

unfoldable pub unrun_word : Name → (ran : Bool) → List ℕ
unrun_word name ran = if ran then [] else codes " " ++ name_text name

unfoldable pub peak_words : Name → (most : ℕ) → List ℕ
peak_words name most = codes " " ++ (name_text name ++ (codes " " ++ decimal most))

-- the tasks and the cyclic handlers that never ran
abbrev pub unrun_text : SystemTables → Report → List ℕ
unrun_text sys r =
    row_text (codes "never run:")
    (numbered (λ t x ran. unrun_word x.name ran) 0 sys.tasks r.coverage.runs.tasks.items
    ++ numbered (λ c x ran. unrun_word x.name ran) 0 sys.cyclics r.coverage.runs.cyclics.items)

-- the greatest count of each semaphore
abbrev pub counts_text : SystemTables → Report → List ℕ
counts_text sys r =
    row_text (codes "greatest counts:")
    (numbered (λ i x most. peak_words x.name most) 0 sys.semaphores r.coverage.peaks.counts.items)

-- the greatest length of each data queue and each mailbox
abbrev pub lengths_text : SystemTables → Report → List ℕ
lengths_text sys r =
    row_text (codes "greatest lengths:")
    (numbered (λ i x most. peak_words x.name most) 0 sys.data_queues r.coverage.peaks.words.items
    ++ numbered (λ i x most. peak_words x.name most) 0 sys.mailboxes r.coverage.peaks.messages.items)

-- ---- what has the most values

abbrev pub varied_name : SourceTables → Varied → List ℕ
varied_name s (varied.Field what) = field_name s.claim.image.system s.names what
varied_name s (varied.Standing place) = kept_name s place

abbrev pub hint : Varied → List ℕ
hint (varied.Field what) = if counts_queued what then codes " (fewer with --queued)" else []
hint (varied.Standing place) = []

unfoldable pub values_line : SourceTables → Variety → List ℕ
values_line s v = decimal v.values ++ (codes " values: " ++ (varied_name s v.what ++ (hint v.what ++ codes "\n")))

abbrev pub most_values : List Variety → ℕ
most_values vs = fold (λ most v. max v.values most) 0 vs

-- more than one value, and half as many as the most varied field, or more
abbrev pub is_varied : (most : ℕ) → Variety → Bool
is_varied most v = nat_lt 1 v.values && nat_le (most / 2) v.values

abbrev pub varied_line : SourceTables → (most : ℕ) → Variety → List ℕ
varied_line s most v = if is_varied most v then values_line s v else []

abbrev pub values_text : SourceTables → List Variety → List ℕ
values_text s vs = flat_map (λ v. varied_line s (most_values vs) v) vs

-- ---- all

abbrev pub coverage_text : SourceTables → Report → List CallSite → List AnsweredCall → List Refused → List ℕ
coverage_text s r unmade answered refused =
    unmade_text s (is_complete r.ending) unmade
    ++ (asked_answers s answered
    ++ (flat_map (λ x. refused_line s x) refused
    ++ (unrun_text s.claim.image.system r
    ++ (counts_text s.claim.image.system r ++ lengths_text s.claim.image.system r))))

-- the by-products of a search: the calls that were not made, answered or refused are those of its states
abbrev pub covered_text : SourceTables → Report → List ℕ
covered_text s r =
    let code = s.claim.image.code in
    coverage_text s r (unmade_calls r.coverage code) (answered_calls r.coverage code s.positions)
    (refused_calls code (answers_of_calls r.coverage code))

-- what is printed below the end of a search
abbrev pub extent_text : SourceTables → Report → List ℕ
extent_text s r =
    unsaid_text s r
    ++ (waits_line r.waits
    ++ (extent_line r.states r.events r.depth ++ (covered_text s r ++ values_text s r.varieties.items)))

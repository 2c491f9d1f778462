-- What a search came to, for other programs: objects of JSON, one in a line.
use Rattle.std.specs.Prelude.{ℕ, ◌≡◌, ◌-◌, List, [], ◌∷◌, ◌++◌, Bool, ◌&&◌, Option, Some, None, codes, length, map}
use Rattle.std.specs.Prelude.{nat_lt, option_and_then, option_map, slice_get, string_bytes, take, if◌then◌else◌}
use Rattle.std.specs.Str.Lossy.{utf8_lossy}
use Rattle.json.specs.Token.{Token, string}
use Rattle.fmp_explore.specs.declared.exploring.Report.{Report}
use Rattle.fmp_json.specs.Members.{list_begin, list_end, number_member, object_line, text_member}
use Rattle.fmp_question.specs.declared.question.Question.{Question}
use Rattle.fmp_question.specs.declared.site.CallSite.{CallSite}
use Rattle.fmp_witness.specs.declared.finding.Finding.{Finding}
use Rattle.fmp_searching.specs.Claims.{ClaimTables, claim_text, end_text, status_of, unlooked_text}
use Rattle.fmp_searching.specs.ExtentRecords.{covered_records}
use Rattle.fmp_searching.specs.Findings.{head_line}
use Rattle.fmp_searching.specs.Lines.{numbered}
use Rattle.fmp_searching.specs.Members.{call_position, number_or_none, position_members, string_tokens}
use Rattle.fmp_searching.specs.Parts.{claim_parts}
use Rattle.fmp_searching.specs.Sources.{SourceTables, steps_name}
use Rattle.fmp_searching.specs.Unsaid.{has_unsaid}
use Rattle.fmp_searching.specs.Varied.{line_at}
use Rattle.fmp_searching.specs.declared.records.FoundRecord.{FoundRecord}
use Rattle.fmp_searching.specs.declared.records.RecordPosition.{RecordPosition}
use Rattle.fmp_searching.specs.declared.seen.Seen.{Seen}
use Rattle.fmp_searching.specs.declared.seen.SeenKind.{SeenKind}
use Rattle.fmp_searching.specs.declared.seen.SeenKind.TheVariants as kind

-- what a finding breaks, in a word
abbrev pub kind_word : SeenKind → List ℕ
kind_word kind.Never = codes "never"
kind_word kind.Fault = codes "fault"
kind_word (kind.Alone position) = codes "alone"
kind_word (kind.Sentence position) = codes "sentence"
kind_word (kind.CallSentence position) = codes "sentence"
kind_word kind.Deadlock = codes "deadlock"
kind_word kind.Endless = codes "endless"
kind_word kind.Stuck = codes "stuck"

-- the number of a finding, what it breaks and, of a sentence, the line of that
abbrev pub kind_members : (number : ℕ) → SeenKind → (sentence : Option ℕ) → List Token
kind_members number k sentence =
    text_member (codes "what") (codes "finding")
    ++ (number_member (codes "number") number
    ++ (text_member (codes "kind") (kind_word k) ++ number_or_none (codes "sentence") sentence))

-- what is seen of it; and how many steps lead there, and where these are
abbrev pub seen_members : (text : List ℕ) → (steps : ℕ) → (file : List ℕ) → List Token
seen_members text steps file =
    text_member (codes "text") text
    ++ (number_member (codes "steps") steps ++ text_member (codes "in") file)

-- a finding
abbrev pub found_record : FoundRecord → List ℕ
found_record f =
    object_line
    (kind_members f.number f.kind f.sentence
    ++ (position_members f.position ++ seen_members (string_bytes f.text) f.steps (string_bytes f.steps_file)))

-- of a body that goes on for ever the line of its head
abbrev pub record_position : SourceTables → SeenKind → CallSite → RecordPosition
record_position s kind.Endless site = record { line = head_line s.claim site; column = None }
record_position s _ site = call_position s site

-- the line, in its file, of the sentence that is broken, if one is
abbrev pub sentence_line : SourceTables → SeenKind → (call_sentences : List ℕ) → Option ℕ
sentence_line s (kind.Sentence place) broken = line_at s.sections s.expected place
sentence_line s _ broken =
    option_and_then (λ place. option_map (λ x. x.line) (slice_get s.call_sentences place)) (slice_get broken 0)

-- a finding of this number, of which this is seen
abbrev pub finding_record : SourceTables → (number : ℕ) → Finding → Seen → List ℕ
finding_record s number f x =
    object_line
    (kind_members number x.kind (sentence_line s x.kind x.call_sentences.items)
    ++ (position_members (option_map (λ site. record_position s x.kind site) x.site)
    ++ seen_members (utf8_lossy x.text.items) (length f.steps.items) (steps_name s.out number)))

-- a text without its last byte, a line feed
abbrev pub without_feed : List ℕ → List ℕ
without_feed text = take (length text - 1) text

-- what is claimed, else nothing; and why a search that claims nothing ended, or why one that claims something did not
-- look for stuck tasks, if it did not
abbrev pub claimed_text : ClaimTables → Report → List ℕ
claimed_text c r = if r.holds then claim_text c else []

abbrev pub stopped_text : Question → Report → List ℕ
stopped_text q r =
    if r.holds then unlooked_text q r.stuck_search else end_text q r.ending (nat_lt 0 (length r.findings.items))

-- the same as lines, in the characters that JSON has
abbrev pub claim_line : ClaimTables → Report → List ℕ
claim_line c r = utf8_lossy (without_feed (claimed_text c r))

abbrev pub stop_line : Question → Report → List ℕ
stop_line q r = utf8_lossy (without_feed (stopped_text q r))

-- the status and the claim; what the claim is made of; and why the search ended, and how far it went
abbrev pub claim_members : (status : ℕ) → (claim : List ℕ) → List Token
claim_members status claim =
    text_member (codes "what") (codes "end")
    ++ (number_member (codes "status") status ++ text_member (codes "claim") claim)

abbrev pub part_members : (parts : List (List ℕ)) → List Token
part_members parts = list_begin (codes "parts") ++ (string_tokens parts ++ list_end)

abbrev pub extent_members : (stopped : List ℕ) → Report → List Token
extent_members stopped r =
    text_member (codes "stopped") stopped
    ++ (number_member (codes "states") r.states
    ++ (number_member (codes "events") r.events ++ number_member (codes "depth") r.depth))

-- how a search ended, in a line
abbrev pub end_line : (status : ℕ) → (claim stopped : List ℕ) → (parts : List (List ℕ)) → Report → List ℕ
end_line status claim stopped parts r =
    object_line (claim_members status claim ++ (part_members parts ++ extent_members stopped r))

-- the same of a report
abbrev pub end_record : SourceTables → Report → List ℕ
end_record s r =
    end_line (status_of (s.strict && has_unsaid s.claim.question r) r) (claim_line s.claim r)
    (stop_line s.claim.question r) (map (λ part. utf8_lossy part) (claim_parts s.claim)) r

-- what is printed of a report: a line for each finding, then the by-products of the search, and how it ended
abbrev pub IsReportRecords : SourceTables → Report → List Seen → (text : List ℕ) → Type 0
IsReportRecords s r seen text =
    text
    ≡ numbered (λ number f x. finding_record s number f x) 1 r.findings.items seen
    ++ (covered_records s r ++ end_record s r)

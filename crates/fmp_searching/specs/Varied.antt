-- What is said of what has the most values in the states of a search that stopped.
use Rattle.std.specs.Prelude.{ℕ, ◌+◌, ◌-◌, List, [], ◌++◌, Option, Some, None, codes, decimal, length, nat_lt}
use Rattle.std.specs.Prelude.{option_map, slice_get, take, if◌then◌else◌}
use Rattle.fmp_base.specs.Systems.{SystemTables}
use Rattle.fmp_expect.specs.declared.expectation.Expected.{Expected}
use Rattle.fmp_monitors.specs.declared.sentence.Sentence.{Sentence}
use Rattle.fmp_schedules.specs.declared.limit.InterruptLimit.{InterruptLimit}
use Rattle.fmp_schedules.specs.declared.limit.InterruptLimit.TheVariants as limit
use Rattle.fmp_schedules.specs.declared.monitor.Monitor.{Monitor}
use Rattle.fmp_schedules.specs.declared.monitor.MonitorSubject.{MonitorSubject}
use Rattle.fmp_schedules.specs.declared.monitor.MonitorSubject.TheVariants as subject
use Rattle.fmp_searching.specs.Sources.{SourceTables}
use Rattle.fmp_searching.specs.Sentences.{sentence_text}

-- the number of an interrupt, and in brackets the option that limits it, as ` (--int ` of `3 (--int 3:2)`
unfoldable pub option_text : (option : List ℕ) → (i n : ℕ) → List ℕ
option_text option i n =
    decimal (i + 1) ++ (option ++ (decimal (i + 1) ++ (codes ":" ++ (decimal n ++ codes ")"))))

-- how often an interrupt came
unfoldable pub count_name : (i n : ℕ) → List ℕ
count_name i n = codes "times of interrupt " ++ option_text (codes " (--int ") i n

-- how long ago it came
unfoldable pub gap_name : (i n : ℕ) → List ℕ
gap_name i n = codes "ticks since interrupt " ++ option_text (codes " (--gap ") i n

abbrev pub limit_name : InterruptLimit → List ℕ
limit_name (limit.AtMost i n) = count_name i n
limit_name (limit.Apart i n) = gap_name i n

-- a line of a file of sentences
unfoldable pub line_name : (file : List ℕ) → (line : ℕ) → List ℕ
line_name file line = codes "line " ++ (decimal line ++ (codes " of " ++ file))

-- a section as the command line has it
unfoldable pub section_name : SystemTables → Sentence → List ℕ
section_name t e = codes "--" ++ take (length (sentence_text t e) - 2) (sentence_text t e)

-- where a sentence stands: in this line of a file, or among the options
abbrev pub sentence_name : SystemTables → (file : List ℕ) → (line : Option ℕ) → Sentence → List ℕ
sentence_name t file (Some n) e = line_name file n
sentence_name t file None e = section_name t e

-- what is kept for a monitor, of a sentence in this line of a file or of a section or a limit among the options
abbrev pub subject_name : SystemTables → (file : List ℕ) → (line : Option ℕ) → MonitorSubject → List ℕ
subject_name t file line (subject.Sentence e) = sentence_name t file line e
subject_name t file line (subject.Limit x) = limit_name x

-- the same, if there is such a monitor
abbrev pub standing_name : SystemTables → (file : List ℕ) → (line : Option ℕ) → Option Monitor → List ℕ
standing_name t file line None = []
standing_name t file line (Some m) = subject_name t file line m.subject

-- the line of the sentence at a place, if it is one of a file: before these stand the sections, this many
abbrev pub line_at : (sections : ℕ) → List Expected → (place : ℕ) → Option ℕ
line_at sections expected place =
    if nat_lt place sections then None else option_map (λ x. x.line) (slice_get expected (place - sections))

-- what is kept for the monitor at a place of a question
abbrev pub kept_name : SourceTables → (place : ℕ) → List ℕ
kept_name s place =
    standing_name s.claim.image.system s.file (line_at s.sections s.expected place)
    (slice_get s.claim.question.monitors.items place)

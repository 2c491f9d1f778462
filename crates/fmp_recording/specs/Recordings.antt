-- Recordings: how they are written, and what they mean.
use Rattle.std.specs.Prelude.{◌≡◌, ℕ, suc, ◌+◌, ◌-◌, ◌^◌, true, false, min, ℤ, pos, negsuc, List, [], ◌∷◌, ◌++◌, Option}
use Rattle.std.specs.Prelude.{Some, None, Result, Ok, Err, Bool, ◌&&◌, if◌then◌else◌, nat_eq, nat_le, nat_lt, bytes_eq}
use Rattle.std.specs.Prelude.{codes, decimal, drop, get_or, map, position, take, zero}
use Rattle.std.specs.Fmt.{signed_decimal}
use Rattle.fmp_base.specs.declared.bodies.Fault.{Fault}
use Rattle.fmp_base.specs.declared.services.Service.{Service}
use Rattle.fmp_base.specs.Services.{arguments_of, arity, request, service_name, service_of}
use Rattle.fmp_base.specs.Texts.{fault_named, fault_text}
use Rattle.fmp_base.specs.Words.{service_named}
use Rattle.fmp_outside.specs.declared.given.Act.{Act}
use Rattle.fmp_outside.specs.declared.given.Act.TheVariants as act
use Rattle.fmp_outside.specs.declared.given.Given.{Given}
use Rattle.fmp_outside.specs.declared.given.Given.TheVariants as given
use Rattle.fmp_recording.specs.declared.faults.RecordingFlaw.{RecordingFlaw}
use Rattle.fmp_recording.specs.declared.faults.RecordingFlaw.TheVariants as flaw
use Rattle.fmp_recording.specs.declared.faults.RecordingFault.{RecordingFault}
use Rattle.fmp_recording.specs.declared.faults.RecordingFault.TheVariants as fault
use Rattle.fmp_recording.specs.declared.recorded.RecordedLine.{RecordedLine}
use Rattle.fmp_recording.specs.declared.recorded.RecordedLine.TheVariants as recorded
use Rattle.fmp_trace.specs.Steps.{lines_of, numeral_value}

-- arguments, each after a blank
abbrev pub arguments_text : List ℤ → List ℕ
arguments_text [] = []
arguments_text (x ∷ xs) = codes " " ++ (signed_decimal x ++ arguments_text xs)

-- how what a body does is written
abbrev pub act_text : Act → List ℕ
act_text (act.Call c) = service_name (service_of c) ++ arguments_text (arguments_of c)
act_text act.End = codes "end"
act_text (act.Fault f) = codes "fault " ++ fault_text f

-- how what comes is written
abbrev pub given_text : Given → List ℕ
given_text (given.Act p a) = codes "run " ++ (decimal p ++ (codes " " ++ act_text a))
given_text given.Tick = codes "tick"
given_text (given.Int i) = codes "int " ++ decimal i

-- each of them, ended by a line feed
abbrev pub recording_text : List Given → List ℕ
recording_text [] = []
recording_text (g ∷ gs) = given_text g ++ 10 ∷ recording_text gs

-- the line that says that the counts began again
abbrev pub restart_text : List ℕ
restart_text = codes "restart"

-- how a line is written
abbrev pub recorded_text : RecordedLine → List ℕ
recorded_text (recorded.Came g) = given_text g
recorded_text recorded.Restart = restart_text

-- each of these lines, ended by a line feed
abbrev pub recorded_lines_text : List RecordedLine → List ℕ
recorded_lines_text [] = []
recorded_lines_text (r ∷ rs) = recorded_text r ++ 10 ∷ recorded_lines_text rs

-- how the time of a line is written
abbrev pub time_text : Option ℕ → List ℕ
time_text None = []
time_text (Some n) = codes " @" ++ decimal n

-- each of them with its time, ended by a line feed
abbrev pub timed_text : List Given → List (Option ℕ) → List ℕ
timed_text [] times = []
timed_text (g ∷ gs) [] = []
timed_text (g ∷ gs) (t ∷ ts) = given_text g ++ (time_text t ++ 10 ∷ timed_text gs ts)

-- a word, and what stands after it, from the blank on that ends it
pub record Cut : Type 0 where
  pub word : List ℕ
  pub rest : List ℕ

abbrev pub cut_at : Option ℕ → List ℕ → Cut
cut_at None text = record { word = text; rest = [] }
cut_at (Some k) text = record { word = take k text; rest = drop k text }

-- the first word of a text
abbrev pub cut : List ℕ → Cut
cut text = cut_at (position (λ b. nat_eq b 32) text) text

-- a number, or 2^53 + 1 for a greater one
abbrev pub capped : Option ℕ → Option ℕ
capped None = None
capped (Some n) = Some (min n 9007199254740993)

-- a number of 32 bits
abbrev pub positive : Option ℕ → Option ℤ
positive None = None
positive (Some n) = if nat_lt n (2 ^ 31) then Some (pos n) else None

-- the same below 0
abbrev pub negative : Option ℕ → Option ℤ
negative None = None
negative (Some n) = if nat_le 1 n && nat_le n (2 ^ 31) then Some (negsuc (n - 1)) else None

abbrev pub signed_number : (is_minus : Bool) → (after_sign text : List ℕ) → Option ℤ
signed_number true after_sign text = negative (numeral_value after_sign)
signed_number false after_sign text = positive (numeral_value text)

-- the number of 32 bits that a text spells, with `-` in front if it is below 0, without zeros in front
abbrev pub number_of : List ℕ → Option ℤ
number_of [] = None
number_of (b ∷ bs) = signed_number (nat_eq b 45) bs (b ∷ bs)

abbrev pub in_front_of : Option ℤ → Option (List ℤ) → Option (List ℤ)
in_front_of None xs = None
in_front_of (Some x) None = None
in_front_of (Some x) (Some xs) = Some (x ∷ xs)

-- n arguments, each after a blank, and nothing after them
abbrev pub arguments_in : ℕ → List ℕ → Option (List ℤ)
arguments_in zero [] = Some []
arguments_in zero (b ∷ bs) = None
arguments_in (suc n) [] = None
arguments_in (suc n) (b ∷ bs) = in_front_of (number_of (cut bs).word) (arguments_in n (cut bs).rest)

-- a number from 1 to the greatest
abbrev pub number_up_to : (most : ℕ) → Option ℤ → Result ℕ RecordingFlaw
number_up_to most None = Err flaw.Form
number_up_to most (Some (pos n)) = if nat_le 1 n && nat_le n most then Ok n else Err flaw.Range
number_up_to most (Some (negsuc n)) = Err flaw.Range

-- the call of a service with these arguments
abbrev pub call_with : Service → Option (List ℤ) → Option Act
call_with s None = None
call_with s (Some xs) = Some (act.Call (request s xs))

abbrev pub call_in : Option Service → List ℕ → Option Act
call_in None rest = None
call_in (Some s) rest = call_with s (arguments_in (arity s) rest)

abbrev pub fault_act : Option Fault → Option Act
fault_act None = None
fault_act (Some f) = Some (act.Fault f)

abbrev pub fault_in : List ℕ → Option Act
fault_in [] = None
fault_in (b ∷ bs) = fault_act (fault_named bs)

abbrev pub end_in : List ℕ → Option Act
end_in [] = Some act.End
end_in (b ∷ bs) = None

-- what a body does, from its word and what stands after it
abbrev pub act_by : Cut → Option Act
act_by c =
    if bytes_eq c.word (codes "end") then end_in c.rest
    else if bytes_eq c.word (codes "fault") then fault_in c.rest
    else call_in (service_named c.word) c.rest

abbrev pub act_in : List ℕ → Option Act
act_in [] = None
act_in (b ∷ bs) = act_by (cut bs)

abbrev pub given_act : Result ℕ RecordingFlaw → Option Act → Result Given RecordingFlaw
given_act (Err f) a = Err f
given_act (Ok p) None = Err flaw.Form
given_act (Ok p) (Some a) = Ok (given.Act p a)

abbrev pub run_in : (processors : ℕ) → List ℕ → Result Given RecordingFlaw
run_in processors [] = Err flaw.Form
run_in processors (b ∷ bs) =
    given_act (number_up_to processors (number_of (cut bs).word)) (act_in (cut bs).rest)

abbrev pub given_int : Result ℕ RecordingFlaw → Result Given RecordingFlaw
given_int (Err f) = Err f
given_int (Ok i) = Ok (given.Int i)

abbrev pub int_in : List ℕ → Result Given RecordingFlaw
int_in [] = Err flaw.Form
int_in (b ∷ bs) = given_int (number_up_to 32 (number_of bs))

abbrev pub tick_in : List ℕ → Result Given RecordingFlaw
tick_in [] = Ok given.Tick
tick_in (b ∷ bs) = Err flaw.Form

-- what comes, from its word and what stands after it
abbrev pub given_by : (processors : ℕ) → Cut → Result Given RecordingFlaw
given_by processors c =
    if bytes_eq c.word (codes "run") then run_in processors c.rest
    else if bytes_eq c.word (codes "int") then int_in c.rest
    else if bytes_eq c.word (codes "tick") then tick_in c.rest
    else Err flaw.Form

-- what a text says that comes: `run P CALL A ..` with all arguments of the call, `run P end`, `run P fault F_OVF`,
-- `F_DIV` or `F_IDX`, with P from 1 to the number of processors; `tick`; `int I` with I from 1 to 32
abbrev pub given_in : (processors : ℕ) → List ℕ → Result Given RecordingFlaw
given_in processors text = given_by processors (cut text)

abbrev pub after_blank : (line : List ℕ) → (at_sign : Option ℕ) → Option ℕ
after_blank line None = None
after_blank line (Some k) = if nat_le 1 k && nat_eq (get_or line (k - 1) 0) 32 then Some (k - 1) else None

-- where ` @` stands in a line, if its first `@` is after a blank
abbrev pub time_position : List ℕ → Option ℕ
time_position line = after_blank line (position (λ b. nat_eq b 64) line)

-- a time, in microseconds: from 0 to 2^53
abbrev pub time_number : Option ℕ → Result ℕ RecordingFlaw
time_number None = Err flaw.Form
time_number (Some n) = if nat_le n (2 ^ 53) then Ok n else Err flaw.Range

abbrev pub some_time : Result ℕ RecordingFlaw → Result (Option ℕ) RecordingFlaw
some_time (Err f) = Err f
some_time (Ok n) = Ok (Some n)

-- a line without its time
abbrev pub said_before : (position : Option ℕ) → List ℕ → List ℕ
said_before None line = line
said_before (Some k) line = take k line

-- its time, if it has one
abbrev pub time_after : (position : Option ℕ) → List ℕ → Result (Option ℕ) RecordingFlaw
time_after None line = Ok None
time_after (Some k) line = some_time (time_number (numeral_value (drop (k + 2) line)))

abbrev pub with_time : Result Given RecordingFlaw → Result (Option ℕ) RecordingFlaw → Result Given RecordingFlaw
with_time (Err f) time = Err f
with_time (Ok g) (Err f) = Err f
with_time (Ok g) (Ok time) = Ok g

-- What a line without its line feed says: what comes, and maybe ` @N` after it, where N says when it came, in
-- microseconds since the start. Of two flaws it has that of what comes.
abbrev pub line_meaning : (processors : ℕ) → List ℕ → Result Given RecordingFlaw
line_meaning processors line =
    with_time (given_in processors (said_before (time_position line) line)) (time_after (time_position line) line)

abbrev pub is_restart : List ℕ → Bool
is_restart line = bytes_eq line restart_text

abbrev pub came_by : Result Given RecordingFlaw → Result RecordedLine RecordingFlaw
came_by (Err f) = Err f
came_by (Ok g) = Ok (recorded.Came g)

-- What a line of a recording says: `restart` and no more, that the counts began again; any other, what comes and maybe
-- when.
abbrev pub recorded_in : (processors : ℕ) → List ℕ → Result RecordedLine RecordingFlaw
recorded_in processors line =
    if is_restart line then Ok recorded.Restart else came_by (line_meaning processors line)

abbrev pub time_or_none : Result (Option ℕ) RecordingFlaw → Option ℕ
time_or_none (Err f) = None
time_or_none (Ok time) = time

-- when what a line says came, if the line says so
abbrev pub line_time : List ℕ → Option ℕ
line_time line = time_or_none (time_after (time_position line) line)

-- the times of the lines that say what comes
abbrev pub line_times : List (List ℕ) → List (Option ℕ)
line_times [] = []
line_times (line ∷ lines) =
    if is_restart line then line_times lines else line_time line ∷ line_times lines

-- the times of what a recording says that came
abbrev pub times_of : List ℕ → List (Option ℕ)
times_of text = line_times (lines_of text)

-- a flaw of line n
abbrev pub fault_at : ℕ → Result RecordedLine RecordingFlaw → Result RecordedLine RecordingFault
fault_at n (Ok r) = Ok r
fault_at n (Err flaw.Form) = Err (fault.Line n)
fault_at n (Err flaw.Range) = Err (fault.Range n)

-- what line n says: there are at most 2^31 lines
abbrev pub recorded_at : (processors n : ℕ) → List ℕ → Result RecordedLine RecordingFault
recorded_at processors n line =
    if nat_le n (2 ^ 31) then fault_at n (recorded_in processors line) else Err (fault.TooMany n)

abbrev pub in_front : Result RecordedLine RecordingFault → Result (List RecordedLine) RecordingFault
    → Result (List RecordedLine) RecordingFault
in_front (Err f) rest = Err f
in_front (Ok r) (Err f) = Err f
in_front (Ok r) (Ok rs) = Ok (r ∷ rs)

-- what lines say that are numbered from n on, or the first fault
abbrev pub recorded_from : (processors n : ℕ) → List (List ℕ) → Result (List RecordedLine) RecordingFault
recorded_from processors n [] = Ok []
recorded_from processors n (line ∷ lines) =
    in_front (recorded_at processors n line) (recorded_from processors (n + 1) lines)

-- what the lines of a recording say, or its first fault
abbrev pub recorded_of : (processors : ℕ) → List ℕ → Result (List RecordedLine) RecordingFault
recorded_of processors text = recorded_from processors 1 (lines_of text)

-- what came
abbrev pub came : List RecordedLine → List Given
came [] = []
came (recorded.Came g ∷ rs) = g ∷ came rs
came (recorded.Restart ∷ rs) = came rs

-- the lines that say that these came
abbrev pub came_lines : List Given → List RecordedLine
came_lines gs = map (λ g. recorded.Came g) gs

abbrev pub all_came : Result (List RecordedLine) RecordingFault → Result (List Given) RecordingFault
all_came (Err f) = Err f
all_came (Ok rs) = Ok (came rs)

-- what a recording says that came, or its first fault
abbrev pub recording_of : (processors : ℕ) → List ℕ → Result (List Given) RecordingFault
recording_of processors text = all_came (recorded_of processors text)

-- a reader's fault is that of the text, unless memory ran out
abbrev pub IsFaultOf : {A : Type 0} → RecordingFault → Result A RecordingFault → Type 0
IsFaultOf fault.Memory r = Unit {0}
IsFaultOf (fault.Line n) r = r ≡ Err (fault.Line n)
IsFaultOf (fault.Range n) r = r ≡ Err (fault.Range n)
IsFaultOf (fault.TooMany n) r = r ≡ Err (fault.TooMany n)

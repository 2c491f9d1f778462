-- Steps texts: what they mean, and how they are written.
use Rattle.std.specs.Prelude.{ℕ, ◌≡◌, ◌+◌, List, [], ◌∷◌, ◌++◌, Option, Some, None, Result, Ok, Err, Bool, true, false}
use Rattle.std.specs.Prelude.{◌&&◌, if◌then◌else◌, nat_eq, nat_le, min, codes, decimal}
use Rattle.std.specs.Str.{all_ascii_digits}
use Rattle.std.specs.Str.Parse.{digits_value}
use Rattle.fmp_base.specs.declared.events.Event.{Event}
use Rattle.fmp_base.specs.declared.events.Event.TheVariants as event
use Rattle.fmp_trace.specs.declared.faults.Flaw.{Flaw}
use Rattle.fmp_trace.specs.declared.faults.Flaw.TheVariants as flaw
use Rattle.fmp_trace.specs.declared.faults.StepsFault.{StepsFault}
use Rattle.fmp_trace.specs.declared.faults.StepsFault.TheVariants as fault

-- lines after one more byte: a line feed ends an empty line in front of them
abbrev pub with_byte : (is_line_feed : Bool) → ℕ → List (List ℕ) → List (List ℕ)
with_byte true b lines = [] ∷ lines
with_byte false b [] = (b ∷ []) ∷ []
with_byte false b (line ∷ lines) = (b ∷ line) ∷ lines

-- the lines of a text, each ended by a line feed, which the last may lack
abbrev pub lines_of : List ℕ → List (List ℕ)
lines_of [] = []
lines_of (b ∷ bs) = with_byte (nat_eq b 10) b (lines_of bs)

-- the number that a text spells, if it is decimal digits
abbrev pub digits_number : List ℕ → Option ℕ
digits_number text = if all_ascii_digits text then Some (digits_value 10 text) else None

-- the number that a text spells, if it is decimal digits without leading zeros
abbrev pub numeral_value : List ℕ → Option ℕ
numeral_value [] = None
numeral_value (d ∷ []) = digits_number (d ∷ [])
numeral_value (d ∷ e ∷ ds) = if nat_eq d 48 then None else digits_number (d ∷ e ∷ ds)

-- a number, or 1000 for a greater one
abbrev pub capped : Option ℕ → Option ℕ
capped None = None
capped (Some n) = Some (min n 1000)

-- the number from 1 to most that was read, if any
abbrev pub ranged_number : (most : ℕ) → Option ℕ → Result ℕ Flaw
ranged_number most None = Err flaw.Form
ranged_number most (Some n) = if nat_le 1 n && nat_le n most then Ok n else Err flaw.Range

-- the event that is made with a number
abbrev pub numbered_event : (ℕ → Event) → Result ℕ Flaw → Result Event Flaw
numbered_event make (Ok n) = Ok (make n)
numbered_event make (Err f) = Err f

-- what is left, where the bytes before it were the same
abbrev pub if_same : Bool → Option (List ℕ) → Option (List ℕ)
if_same true rest = rest
if_same false rest = None

-- what stands after a front of a text, if the text begins with it
abbrev pub behind : (front text : List ℕ) → Option (List ℕ)
behind [] text = Some text
behind (c ∷ cs) [] = None
behind (c ∷ cs) (b ∷ bs) = if_same (nat_eq b c) (behind cs bs)

-- the event of a line by what stands in it after `run `, after `int ` and after `tick`
abbrev pub meaning_by : (processors : ℕ) → (run int tick : Option (List ℕ)) → Result Event Flaw
meaning_by processors (Some text) int tick =
    numbered_event (λ p. event.Run p) (ranged_number processors (numeral_value text))
meaning_by processors None (Some text) tick = numbered_event (λ i. event.Int i) (ranged_number 32 (numeral_value text))
meaning_by processors None None (Some []) = Ok event.Tick
meaning_by processors None None (Some (b ∷ bs)) = Err flaw.Form
meaning_by processors None None None = Err flaw.Form

-- the event of a line without its line feed: `run P` with P from 1 to the number of processors, `tick`, or `int I`
-- with I from 1 to 32
abbrev pub line_meaning : (processors : ℕ) → List ℕ → Result Event Flaw
line_meaning processors line =
    meaning_by processors (behind (codes "run ") line) (behind (codes "int ") line) (behind (codes "tick") line)

-- a flaw of line n
abbrev pub fault_at : ℕ → Result Event Flaw → Result Event StepsFault
fault_at n (Ok e) = Ok e
fault_at n (Err flaw.Form) = Err (fault.Line n)
fault_at n (Err flaw.Range) = Err (fault.Range n)

-- the event of line n: there are at most 2^20 lines
abbrev pub event_of_line : (processors n : ℕ) → List ℕ → Result Event StepsFault
event_of_line processors n line =
    if nat_le n 1048576 then fault_at n (line_meaning processors line) else Err (fault.TooMany n)

-- an event in front of events; the first fault comes first
abbrev pub in_front : Result Event StepsFault → Result (List Event) StepsFault → Result (List Event) StepsFault
in_front (Err f) rest = Err f
in_front (Ok e) (Err f) = Err f
in_front (Ok e) (Ok es) = Ok (e ∷ es)

-- the events of lines that are numbered from n on, or the first fault
abbrev pub events_of : (processors n : ℕ) → List (List ℕ) → Result (List Event) StepsFault
events_of processors n [] = Ok []
events_of processors n (line ∷ lines) = in_front (event_of_line processors n line) (events_of processors (n + 1) lines)

-- the events of a steps text, or its first fault
abbrev pub steps_of : (processors : ℕ) → List ℕ → Result (List Event) StepsFault
steps_of processors text = events_of processors 1 (lines_of text)

-- the events that were read, none if there was a fault
abbrev pub read_events : Result (List Event) StepsFault → List Event
read_events (Ok es) = es
read_events (Err f) = []

-- what is left to read ends as the whole does
abbrev pub Agrees : (rest whole : Result (List Event) StepsFault) → Type 0
Agrees (Ok es) whole = whole ≡ Ok (read_events whole)
Agrees (Err f) whole = whole ≡ Err f

-- a reader's fault is that of the text, unless memory ran out
abbrev pub IsFaultOf : StepsFault → Result (List Event) StepsFault → Type 0
IsFaultOf fault.Memory r = Unit {0}
IsFaultOf (fault.Line n) r = r ≡ Err (fault.Line n)
IsFaultOf (fault.Range n) r = r ≡ Err (fault.Range n)
IsFaultOf (fault.TooMany n) r = r ≡ Err (fault.TooMany n)

-- how an event is written
abbrev pub event_text : Event → List ℕ
event_text (event.Run p) = codes "run " ++ decimal p
event_text event.Tick = codes "tick"
event_text (event.Int i) = codes "int " ++ decimal i

-- events, each ended by a line feed
abbrev pub steps_text : List Event → List ℕ
steps_text [] = []
steps_text (e ∷ es) = event_text e ++ 10 ∷ steps_text es

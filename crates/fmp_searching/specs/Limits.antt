-- Limits of single interrupts, as words say them, and as a claim does.
use Rattle.std.specs.Prelude.{ℕ, ◌+◌, ◌-◌, List, [], ◌++◌, Bool, Option, Some, None, ◌||◌, codes, decimal, is_some, map}
use Rattle.std.specs.Prelude.{nat_eq, nat_lt, option_and_then, if◌then◌else◌}
use Rattle.std.specs.List.{filter_map, flat_map, list_all}
use denote.Ref.{Bor}
use Rattle.fmp_schedules.specs.declared.limit.InterruptLimit.{InterruptLimit}
use Rattle.fmp_schedules.specs.declared.limit.InterruptLimit.TheVariants as limit
use Rattle.fmp_schedules.specs.declared.monitor.Monitor.{Monitor}
use Rattle.fmp_schedules.specs.declared.monitor.MonitorSubject.{MonitorSubject}
use Rattle.fmp_schedules.specs.declared.monitor.MonitorSubject.TheVariants as subject
use Rattle.fmp_schedules.specs.Monitors.{at_limit}
use Rattle.fmp_searching.specs.Words.{number_named, parts_at}

-- the words of an option, as they were typed
abbrev pub Words : Type 0
Words = List (Bor (List ℕ))

-- the place of the interrupt that a text numbers, from 1 to 32
abbrev pub interrupt_of : ℕ → Option ℕ
interrupt_of number = if nat_eq number 0 || nat_lt 32 number then None else Some (number - 1)

unfoldable pub interrupt_named : List ℕ → Option ℕ
interrupt_named text = option_and_then interrupt_of (number_named text)

abbrev pub count_of : Option ℕ → Option ℕ → Option InterruptLimit
count_of (Some i) (Some n) = Some (limit.AtMost i n)
count_of (Some i) None = None
count_of None n = None

abbrev pub gap_of : Option ℕ → Option ℕ → Option InterruptLimit
gap_of (Some i) (Some n) = Some (limit.Apart i n)
gap_of (Some i) None = None
gap_of None n = None

-- the limit of a word `3:2`: at most two of interrupt 3
unfoldable pub count_named : List ℕ → Option InterruptLimit
count_named word =
    option_and_then (λ parts. count_of (interrupt_named parts.0) (number_named parts.1)) (parts_at 58 word)

-- the limit of a word `3:5`: at least five ticks between two of interrupt 3
unfoldable pub gap_named : List ℕ → Option InterruptLimit
gap_named word =
    option_and_then (λ parts. gap_of (interrupt_named parts.0) (number_named parts.1)) (parts_at 58 word)

abbrev pub are_counts : Words → Bool
are_counts words = list_all (λ word. is_some (count_named word.now)) words

abbrev pub are_gaps : Words → Bool
are_gaps words = list_all (λ word. is_some (gap_named word.now)) words

abbrev pub counts_in : Words → List InterruptLimit
counts_in words = filter_map (λ word. count_named word.now) words

abbrev pub gaps_in : Words → List InterruptLimit
gaps_in words = filter_map (λ word. gap_named word.now) words

-- the limits that the words of both options name
abbrev pub limits_in : (counts gaps : Words) → List InterruptLimit
limits_in counts gaps = counts_in counts ++ gaps_in gaps

-- the monitors of limits
abbrev pub monitors_of : List InterruptLimit → List Monitor
monitors_of limits = map (λ x. at_limit x) limits

-- ---- claims

unfoldable pub tick_word : ℕ → List ℕ
tick_word n = if nat_eq n 1 then codes " tick" else codes " ticks"

unfoldable pub interrupt_text : ℕ → List ℕ
interrupt_text i = codes " of interrupt " ++ decimal (i + 1)

unfoldable pub count_text : (i n : ℕ) → List ℕ
count_text i n = codes ", with at most " ++ (decimal n ++ interrupt_text i)

unfoldable pub gap_text : (i n : ℕ) → List ℕ
gap_text i n =
    codes ", with at least " ++ (decimal n ++ (tick_word n ++ (codes " between two" ++ interrupt_text i)))

abbrev pub limit_text : InterruptLimit → List ℕ
limit_text (limit.AtMost i n) = count_text i n
limit_text (limit.Apart i n) = gap_text i n

-- a monitor's limit, if it is of one
abbrev pub subject_text : MonitorSubject → List ℕ
subject_text (subject.Sentence e) = []
subject_text (subject.Limit x) = limit_text x

-- how often, and how soon again, single interrupts may come
unfoldable pub limits_text : List Monitor → List ℕ
limits_text monitors = flat_map (λ m. subject_text m.subject) monitors

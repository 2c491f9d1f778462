-- The words of journaled events.
use Rattle.std.specs.Prelude.{ℕ, ◌+◌, ◌*◌, ◌/◌, ◌%◌, ◌<◌, ◌&&◌, ◌==◌, nat_lt, if◌then◌else◌, List, map, Option, Some}
use Rattle.std.specs.Prelude.{None}
use Rattle.std.specs.Option.{option_map}
use Rattle.fmp_base.specs.declared.events.Event.{Event}
use Rattle.fmp_base.specs.declared.events.Event.TheVariants.{Run, Tick, Int}
use Rattle.fmp_journal.specs.declared.entry.JournalEntry.{JournalEntry}

-- an event under the number of a seat
abbrev pub entry : ℕ → Event → JournalEntry
entry seat event = record { seat = seat; event = event }

abbrev pub kind_of : Event → ℕ
kind_of (Run p) = 1
kind_of Tick = 2
kind_of (Int i) = 3

abbrev pub event_number : Event → ℕ
event_number (Run p) = p
event_number Tick = 0
event_number (Int i) = i

-- the word of an entry
abbrev pub word_of : JournalEntry → ℕ
word_of x = x.seat * 65536 + kind_of x.event * 256 + event_number x.event

-- an entry whose numbers are bytes
abbrev pub IsEntry : JournalEntry → Type 0
IsEntry x = (x.seat < 256) × (event_number x.event < 256)

-- the event of a kind and a number, if any
abbrev pub event_of : (kind number : ℕ) → Option Event
event_of kind number =
    if kind == 1 then Some (Run number)
    else if kind == 2 && number == 0 then Some Tick
    else if kind == 3 then Some (Int number)
    else None

-- the entry of a word, if it is the word of one
abbrev pub entry_of : ℕ → Option JournalEntry
entry_of word =
    if nat_lt (word / 65536) 256 then option_map (entry (word / 65536)) (event_of (word / 256 % 256) (word % 256)) else
    None

-- the event of a word, if it is the word of an entry
abbrev pub event_in : ℕ → Option Event
event_in word = option_map (λ x. x.event) (entry_of word)

-- the words of a journal
abbrev pub words_of : List JournalEntry → List ℕ
words_of journal = map word_of journal

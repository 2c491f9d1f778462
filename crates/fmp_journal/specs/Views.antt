-- What the scribe and the seats know, and what each step makes of it.
use Rattle.std.specs.Prelude.{◌≡◌, ℕ, ◌+◌, ◌≤◌, ◌==◌, not, true, false, List, [], ◌∷◌, ◌++◌, length, filter, slice_get}
use Rattle.std.specs.Prelude.{MatchOption, IfSome, Some}
use mathlib.Core.List.{IsPrefix}
use Rattle.atomic_table.specs.Table.{Me, Step}
use Rattle.fmp_journal.specs.declared.entry.JournalEntry.{JournalEntry}
use Rattle.fmp_journal.specs.declared.knowledge.SeatLook.{SeatLook}
use Rattle.fmp_journal.specs.declared.knowledge.Pen.{Pen}
use Rattle.fmp_journal.specs.declared.knowledge.SeenJournal.{SeenJournal}
use Rattle.fmp_journal.specs.declared.knowledge.View.{View}
use Rattle.fmp_journal.specs.Words.{entry_of}

-- the entries of seat n
abbrev pub own : ℕ → List JournalEntry → List JournalEntry
own n journal = filter (λ x. x.seat == n) journal

-- how many of the marks name seat n
abbrev pub times : ℕ → List ℕ → ℕ
times n marks = length (filter (λ mark. mark == n) marks)

-- the marks that name another seat than n
abbrev pub without : ℕ → List ℕ → List ℕ
without n marks = filter (λ mark. not (mark == n)) marks

-- the reads after one more
abbrev pub looked_at : SeatLook → (word found : ℕ) → SeatLook
looked_at l word found = record { reads = l.reads + 1; word = word; found = found }

abbrev pub no_look : SeatLook
no_look = record { reads = 0; word = 0; found = 0 }

-- the pen of an empty row that has made this many of its seats
abbrev pub new_pen : (capacity seats made : ℕ) → Pen
new_pen capacity seats made = record { capacity = capacity; seats = seats; made = made; journal = []; marks = [] }

-- the sight of seat n, which has seen nothing
abbrev pub new_sight : (capacity seats n : ℕ) → SeenJournal
new_sight capacity seats n =
    record { capacity = capacity; seats = seats; number = n; seen = []; mine = 0; look = no_look }

abbrev pub no_pen : Pen
no_pen = new_pen 0 0 0

abbrev pub no_sight : SeenJournal
no_sight = new_sight 0 0 0

abbrev pub scribe_view : Pen → View
scribe_view p = record { has_pen = true; pen = p; has_sight = false; sight = no_sight }

abbrev pub seat_view : SeenJournal → View
seat_view s = record { has_pen = false; pen = no_pen; has_sight = true; sight = s }

abbrev pub nobody : View
nobody = record { has_pen = false; pen = no_pen; has_sight = false; sight = no_sight }

abbrev pub first_view : (capacity seats : ℕ) → View
first_view capacity seats = scribe_view (new_pen capacity seats 0)

-- what a view has without its sight, and without its pen
abbrev pub scribe_part : View → View
scribe_part v = scribe_view v.pen

abbrev pub seat_part : View → View
seat_part v = record v { has_pen = false; pen = no_pen }

-- a seat's view with the pen of another
abbrev pub lent : (seat scribe : View) → View
lent v w = record v { has_pen = true; pen = w.pen }

-- a seat is made
abbrev pub after_deal : View → View
after_deal v = record v { pen = record v.pen { made = v.pen.made + 1 } }

abbrev pub dealt : View → View
dealt v = seat_view (new_sight v.pen.capacity v.pen.seats v.pen.made)

-- one more entry is written, and its seat marked
abbrev pub pen_after : Pen → JournalEntry → Pen
pen_after p x = record p { journal = p.journal ++ x ∷ []; marks = p.marks ++ x.seat ∷ [] }

abbrev pub written : View → JournalEntry → View
written v x = record v { pen = pen_after v.pen x }

-- a word was read, and this is now seen
abbrev pub looked : View → List JournalEntry → (word found : ℕ) → View
looked v seen word found = record v { sight = record v.sight { seen = seen; look = looked_at v.sight.look word found } }

-- seat n is shown the journal: its marks are cleared
abbrev pub pen_shown : ℕ → Pen → Pen
pen_shown n p = record p { marks = without n p.marks }

-- and it has seen all, and counted its entries
abbrev pub sight_shown : SeenJournal → Pen → SeenJournal
sight_shown s p = record s { seen = p.journal; mine = s.mine + times s.number p.marks }

abbrev pub shown : View → View
shown v = record v { pen = pen_shown v.sight.number v.pen; sight = sight_shown v.sight v.pen }

-- what each step tells its maker: of the step, the view before, the number stored or found, and the view after

-- the entry of the stored word is written
abbrev pub Wrote : Step (Unit {0}) → Me (Unit {0}) View → ℕ → Me (Unit {0}) View → Type 0
Wrote s v n w = IfSome (entry_of n) (λ x. w ≡ (written v.0 x, v.1))

-- the word found is that of the entry at its place, or empty if there is none
abbrev pub Read : Step (Unit {0}) → Me (Unit {0}) View → ℕ → Me (Unit {0}) View → Type 0
Read s v n w = (w ≡ v) × (entry_of n ≡ slice_get v.0.pen.journal s.word)

-- the seat has seen no less than before; an entry that it found stands in that at its place, and an empty word lies
-- after it
abbrev pub Looked : Step (Unit {0}) → Me (Unit {0}) View → ℕ → Me (Unit {0}) View → Type 0
Looked s v n w =
    (seen : List JournalEntry)
    × (w ≡ (looked v.0 seen s.word n, v.1)) × IsPrefix v.0.sight.seen seen × (length seen ≤ v.0.sight.capacity)
    × MatchOption (entry_of n) ((n ≡ 0) × (seen ≡ v.0.sight.seen) × (length seen ≤ s.word))
    (λ x. slice_get seen s.word ≡ Some x)

-- the seat sees the whole journal, which begins with all that it had seen; with its marks it has counted all its
-- entries
abbrev pub CaughtUp : Step (Unit {0}) → Me (Unit {0}) View → ℕ → Me (Unit {0}) View → Type 0
CaughtUp s v n w =
    (w ≡ (shown v.0, v.1)) × IsPrefix v.0.sight.seen v.0.pen.journal × (length v.0.pen.journal ≤ v.0.sight.capacity)
    × (length (own v.0.sight.number v.0.pen.journal) ≡ v.0.sight.mine + times v.0.sight.number v.0.pen.marks)

-- What contracts see of a row, of its scribe and of its seats.
use Rattle.std.specs.Prelude.{◌≡◌, ℕ, ◌+◌, ◌^◌, ◌<◌, ◌≤◌, true, false, List, [], ◌∷◌, ◌++◌, length, take, map}
use Rattle.std.specs.Prelude.{slice_get, Some}
use Rattle.atomic_table.specs.Seated.{TableId}
use Rattle.fmp_base.specs.declared.events.Event.{Event}
use Rattle.fmp_journal.specs.declared.entry.JournalEntry.{JournalEntry}
use Rattle.fmp_journal.specs.declared.knowledge.SeatLook.{SeatLook}
use Rattle.fmp_journal.specs.declared.knowledge.Limits.{Limits}
use Rattle.fmp_journal.specs.declared.knowledge.SeenJournal.{SeenJournal}
use Rattle.fmp_journal.specs.declared.knowledge.View.{View}
use Rattle.fmp_journal.specs.Words.{entry}
use Rattle.fmp_journal.specs.Views.{times, without, no_look, nobody}

-- which row it is: its table of words, how many words it has, and how many seats
pub record RowId : Type 0 where
  pub table : TableId
  pub capacity : ℕ
  pub seats : ℕ

-- the journal, and the seats that have not counted one of their entries, one mark for each such entry
pub record ScribeState : Type 0 where
  pub row : RowId
  pub journal : List JournalEntry
  pub marks : List ℕ

-- the beginning of the journal that a seat has seen, how many entries of its own it has counted, how many events its
-- `follow` gave, and the reads of `follow`
pub record SeatState : Type 0 where
  pub row : RowId
  pub number : ℕ
  pub seen : List JournalEntry
  pub mine : ℕ
  pub place : ℕ
  pub look : SeatLook

-- the events of a journal
abbrev pub events : List JournalEntry → List Event
events journal = map (λ x. x.event) journal

-- the events that a seat's `follow` gave so far
abbrev pub given : SeatState → List Event
given s = take s.place (events s.seen)

-- seat n of a row, which has seen nothing
abbrev pub new_seat : RowId → (n : ℕ) → SeatState
new_seat row n = record { row = row; number = n; seen = []; mine = 0; place = 0; look = no_look }

-- the scribe of a row in which nothing is written
abbrev pub new_scribe : RowId → ScribeState
new_scribe row = record { row = row; journal = []; marks = [] }

-- one more event is written under the number of a seat, which it marks
abbrev pub scribe_after : ScribeState → (seat : ℕ) → Event → ScribeState
scribe_after s seat event = record s { journal = s.journal ++ entry seat event ∷ []; marks = s.marks ++ seat ∷ [] }

-- the marks of seat n are cleared
abbrev pub scribe_unmarked : ScribeState → (n : ℕ) → ScribeState
scribe_unmarked s n = record s { marks = without n s.marks }

-- a seat has seen the whole journal, and counted the entries that the marks name
abbrev pub seat_shown : SeatState → ScribeState → SeatState
seat_shown s by = record s { seen = by.journal; mine = s.mine + times s.number by.marks }

-- the first n seats of a row, numbered from 0, which have seen nothing
abbrev pub AreFirst : RowId → (n : ℕ) → List SeatState → Type 0
AreFirst row n seats = (length seats ≡ n) × ((i : ℕ) → i < n → slice_get seats i ≡ Some (new_seat row i))

-- all seats of a row, which have seen nothing
abbrev pub AreNew : RowId → List SeatState → Type 0
AreNew row seats = AreFirst row row.seats seats

-- what lies in the types

abbrev pub row_id : TableId → Limits → RowId
row_id table limits = record { table = table; capacity = limits.capacity; seats = limits.seats }

-- the words of a table are those that it was made for
pub record IsTable (table : TableId) (limits : Limits) : Type 0 where
  pub words_are : table.words ≡ limits.capacity
  pub some : 0 < limits.capacity
  pub fits : limits.capacity < 2 ^ 32

abbrev pub seat_state : TableId → SeenJournal → ℕ → SeatState
seat_state table s place =
    record {
      row = record { table = table; capacity = s.capacity; seats = s.seats };
      number = s.number;
      seen = s.seen;
      mine = s.mine;
      place = place;
      look = s.look;
    }

pub record IsSeat (table : TableId) (v : View) (number place : ℕ) : Type 0 where
  pub has_sight : v.has_sight ≡ true
  pub words_are : table.words ≡ v.sight.capacity
  pub number_is : v.sight.number ≡ number
  pub is_of_row : number < v.sight.seats
  pub was_seen : place ≤ length v.sight.seen
  pub room : length v.sight.seen ≤ v.sight.capacity

-- the one view of a badge
abbrev pub the_view : List View → View
the_view [] = nobody
the_view (v ∷ vs) = v

abbrev pub scribe_state : RowId → View → ScribeState
scribe_state row v = record { row = row; journal = v.pen.journal; marks = v.pen.marks }

pub record IsScribe (row : RowId) (table : TableId) (views : List View) (written : ℕ) : Type 0 where
  pub table_is : table ≡ row.table
  pub one : views ≡ the_view views ∷ []
  pub has_pen : (the_view views).has_pen ≡ true
  pub no_sight : (the_view views).has_sight ≡ false
  pub written_is : written ≡ length (the_view views).pen.journal
  pub room : written ≤ row.capacity

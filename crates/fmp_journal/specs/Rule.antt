-- The rule of the row.
use Rattle.std.specs.Prelude.{◌≡◌, ℕ, ◌+◌, ◌<◌, ◌≤◌, true, List, length, slice_index, All}
use mathlib.Core.Option.{some}
use mathlib.Core.List.{IsPrefix}
use lib.ListN.{get_elem?}
use Rattle.atomic_table.specs.Table.{State}
use Rattle.fmp_journal.specs.declared.entry.JournalEntry.{JournalEntry}
use Rattle.fmp_journal.specs.declared.knowledge.Pen.{Pen}
use Rattle.fmp_journal.specs.declared.knowledge.SeenJournal.{SeenJournal}
use Rattle.fmp_journal.specs.declared.knowledge.View.{View}
use Rattle.fmp_journal.specs.Words.{IsEntry, words_of}
use Rattle.fmp_journal.specs.Views.{own, times}

-- what a row stands for: its journal, the marks, how many seats were made, and at which places the views of the scribe
-- and of each seat stand
pub record Whole : Type 0 where
  pub journal : List JournalEntry
  pub marks : List ℕ
  pub made : ℕ
  pub scribe : ℕ
  pub seat : ℕ → ℕ

-- an entry of one of n seats
abbrev pub IsEntryOf : (seats : ℕ) → JournalEntry → Type 0
IsEntryOf seats x = (x.seat < seats) × IsEntry x

-- the written words stand at the front and are those of the journal; the others are 0
pub record IsRow (capacity seats : ℕ) (journal : List JournalEntry) (words : List ℕ) : Type 0 where
  pub size : length words ≡ capacity
  pub room : length journal ≤ capacity
  pub words_are : (i : ℕ) → slice_index words i ≡ slice_index (words_of journal) i
  pub entries : All (IsEntryOf seats) journal

-- the scribe knows the whole row
pub record PenFits (capacity : ℕ) (h : Whole) (id : ℕ) (p : Pen) : Type 0 where
  pub here : id ≡ h.scribe
  pub capacity_is : p.capacity ≡ capacity
  pub made_is : p.made ≡ h.made
  pub journal_is : p.journal ≡ h.journal
  pub marks_are : p.marks ≡ h.marks

-- a seat has seen a beginning of the journal, whose entries of this seat are those that it counted and those that marks
-- name
pub record SightFits (capacity : ℕ) (h : Whole) (id : ℕ) (s : SeenJournal) : Type 0 where
  pub here : id ≡ h.seat s.number
  pub capacity_is : s.capacity ≡ capacity
  pub was_made : s.number < h.made
  pub begins : IsPrefix s.seen h.journal
  pub counted : length (own s.number h.journal) ≡ s.mine + times s.number h.marks

abbrev pub Fits : (capacity : ℕ) → Whole → ℕ → View → Type 0
Fits capacity h id v =
    (v.has_pen ≡ true → PenFits capacity h id v.pen) × (v.has_sight ≡ true → SightFits capacity h id v.sight)

-- the words are those of one journal, and every view fits it
abbrev pub IsKept : (capacity seats : ℕ) → State (Unit {0}) View → Type 0
IsKept capacity seats s =
    (h : Whole)
    × IsRow capacity seats h.journal s.words
    × ((id : ℕ) (v : View) → get_elem? s.views id ≡ some v → Fits capacity h id v)

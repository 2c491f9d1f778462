-- What contracts see of boards and their seats, and what their calls answer.
use Rattle.std.specs.Prelude.{◌≡◌, ℕ, ◌≤◌, ◌<◌, ◌^◌, List, [], length}
use Rattle.std.specs.List.{All}
use mathlib.Core.List.{IsPrefix}
use Rattle.fmp_base.specs.declared.events.Event.{Event}
use Rattle.fmp_instructions.specs.declared.instructions.MachineContext.{MachineContext}
use Rattle.fmp_instructions.specs.Instructions.{BodyTables}
use Rattle.fmp_image_bytes.specs.Images.{ImageTables}
use Rattle.fmp_kernel.specs.KernelViews.{KernelView}
use Rattle.fmp_journal.specs.declared.entry.JournalEntry.{JournalEntry}
use Rattle.fmp_journal.specs.Seats.{RowId, SeatState, events}
use Rattle.fmp_journal.specs.Views.{own}
use Rattle.fmp_replay.specs.Replays.{IsLegal, kernel_after}

-- what contracts see of a book: its journal, and the seats that have not counted one of their entries, one mark for
-- each
pub record BookState : Type 0 where
  pub journal : List JournalEntry
  pub marks : List ℕ

-- a board that is not yet open: its image, the instructions that a stretch may take, its row, and what is written there
pub record BlankState : Type 0 where
  pub image : ImageTables
  pub bound : ℕ
  pub row : RowId
  pub journal : List JournalEntry

-- a closed board: the kernel, and the events of the journal
pub record ClosedState : Type 0 where
  pub kernel : KernelView (List BodyTables) MachineContext
  pub events : List Event

-- a journal of at most k entries: each of its events was done, or kept a place, where it stands, and came from one of m
-- seats
pub record IsJournal (i : ImageTables) (n k m : ℕ) (journal : List JournalEntry) : Type 0 where
  pub legal : IsLegal i n (events journal)
  pub room : length journal ≤ k
  pub seats : All (λ x. x.seat < m) journal

-- a kernel is the replay of the journal beside it
pub record IsReplay (i : ImageTables) (n k m : ℕ) (kernel : KernelView (List BodyTables) MachineContext)
    (journal : List JournalEntry) : Type 0 where
  pub kernel_is : kernel ≡ kernel_after i n (events journal)
  pub journal_is : IsJournal i n k m journal

-- a row has words for no more events than a kernel takes
pub record IsRoom (row : RowId) (capacity seats : ℕ) : Type 0 where
  pub capacity_is : capacity ≡ row.capacity
  pub seats_is : seats ≡ row.seats
  pub most : row.capacity ≤ 2 ^ 20

-- the limits of a board
pub record InRange (n k m : ℕ) : Type 0 where
  pub bound_low : 1 ≤ n
  pub bound_high : n ≤ 2 ^ 48
  pub some_events : 1 ≤ k
  pub most_events : k ≤ 2 ^ 20
  pub some_seats : 1 ≤ m
  pub most_seats : m ≤ 64

-- a seat of the board of a row
abbrev pub IsAt : RowId → SeatState → Type 0
IsAt row s = s.row ≡ row

-- a board that is not yet open, in whose row nothing is written
abbrev pub blank : ImageTables → (n : ℕ) → RowId → BlankState
blank i n row = record { image = i; bound = n; row = row; journal = [] }

-- a closed board: its kernel is the replay of its journal
pub record IsClosed (i : ImageTables) (n k m : ℕ) (closed : ClosedState) : Type 0 where
  pub legal : IsLegal i n closed.events
  pub room : length closed.events ≤ k
  pub kernel_is : closed.kernel ≡ kernel_after i n closed.events

-- a seat has seen a beginning of a journal, and has counted all of its own entries in it
abbrev pub HasCounted : List JournalEntry → SeatState → Type 0
HasCounted journal s = IsPrefix s.seen journal × (length (own s.number journal) ≡ s.mine)

-- the events of a closed board are those of a journal whose entries these seats have counted, each its own
pub record IsCountedBy (i : ImageTables) (n k m : ℕ) (seats : List SeatState) (closed : ClosedState) : Type 0 where
  pub journal : List JournalEntry
  pub journal_is : IsJournal i n k m journal
  pub counted : All (HasCounted journal) seats
  pub events_are : closed.events ≡ events journal

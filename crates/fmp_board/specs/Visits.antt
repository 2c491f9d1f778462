-- The effect of a board's calls on their caller's seat, and their answers.
use Rattle.std.specs.Prelude.{◌≡◌, ℕ, ◌+◌, ◌<◌, ◌==◌, if◌then◌else◌, List, length, Result, Ok, Err, MatchResult}
use mathlib.Core.List.{IsPrefix}
use Rattle.fmp_base.specs.declared.events.Event.{Event}
use Rattle.fmp_base.specs.Steps.{Reaction}
use Rattle.fmp_image_bytes.specs.Images.{ImageTables}
use Rattle.fmp_journal.specs.declared.entry.JournalEntry.{JournalEntry}
use Rattle.fmp_journal.specs.Seats.{RowId, SeatState, events}
use Rattle.fmp_journal.specs.Views.{own, times, without}
use Rattle.fmp_journal.specs.Words.{entry}
use Rattle.fmp_board.specs.declared.fault.BoardFault.{BoardFault}
use Rattle.fmp_board.specs.declared.fault.BoardFault.TheVariants as fault
use Rattle.fmp_journal.specs.declared.receipt.Receipt.{Receipt}
use Rattle.fmp_board.specs.Boards.{BookState, IsJournal}
use Rattle.fmp_journal.specs.Receipts.{journal_after, receipt_of}
use Rattle.fmp_replay.specs.Replays.{reaction}

-- a seat that is shown the journal of a book has seen all of it, and counted the entries that the marks name
abbrev pub shown : SeatState → BookState → SeatState
shown s b = record s { seen = b.journal; mine = s.mine + times s.number b.marks }

-- and its marks are cleared
abbrev pub unmarked : BookState → (number : ℕ) → BookState
unmarked b number = record b { marks = without number b.marks }

-- the effect of a call under the lock on its caller's seat: it has seen a journal of the board, which begins with all
-- that it had seen and in which its own entries are just those that it counted; nothing else of it has changed
pub record Visited (i : ImageTables) (n : ℕ) (row : RowId) (was now : SeatState) : Type 0 where
  pub same : now ≡ record was { seen = now.seen; mine = now.mine }
  pub grows : IsPrefix was.seen now.seen
  pub journal : IsJournal i n row.capacity row.seats now.seen
  pub counted : length (own now.number now.seen) ≡ now.mine

-- the effect of any number of a board's calls on a seat: it has seen no less than before, and a journal of the board,
-- if what it had seen was one; nothing else of it has changed
pub record Kept (i : ImageTables) (n : ℕ) (row : RowId) (was now : SeatState) : Type 0 where
  pub same : now ≡ record was { seen = now.seen; mine = now.mine }
  pub grows : IsPrefix was.seen now.seen
  pub journal : IsJournal i n row.capacity row.seats was.seen → IsJournal i n row.capacity row.seats now.seen

-- the journal after an answer to an event: a refused one is not entered
abbrev pub entered : {C : Type 0} → List JournalEntry → JournalEntry → Reaction C → Result Receipt BoardFault
    → List JournalEntry
entered before x reaction (Ok r) = journal_after before x reaction
entered before x reaction (Err f) = before

-- how many events an answer journaled
abbrev pub journaled : Result Receipt BoardFault → ℕ
journaled (Ok r) = if r.number == 0 then 0 else 1
journaled (Err f) = 0

-- the answer to an event after a journal: its receipt there, or, if there is no more room, the refusal
abbrev pub FedAfter : ImageTables → (n k : ℕ) → List JournalEntry → Event → Result Receipt BoardFault → Type 0
FedAfter i n k before e result =
    MatchResult result (λ r. (length before < k) × (r ≡ receipt_of (length before) (reaction i n (events before) e)))
    (λ f. (length before ≡ k) × (f ≡ fault.Full))

-- The answer to an event of a seat: there was a journal, which begins with all that the seat had seen; this is the
-- answer to the event after it, and the seat has then seen it, with the event, if it was entered.
abbrev pub Fed : ImageTables → (n : ℕ) → RowId → Event → (was now : SeatState) → Result Receipt BoardFault → Type 0
Fed i n row e was now result =
    (before : List JournalEntry) × IsJournal i n row.capacity row.seats before × IsPrefix was.seen before
    × FedAfter i n row.capacity before e result
    × (now.seen ≡ entered before (entry was.number e) (reaction i n (events before) e) result)

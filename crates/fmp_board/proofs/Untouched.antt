-- A board whose seats have counted no entry.
use Rattle.std.proofs.Common.{◌≡◌, ℕ, ◌<◌, ◌==◌, Bool, true, false, cond, List, [], ◌∷◌, ◌∙◌, Some, slice_get, length}
use Rattle.std.proofs.Common.{ap, arith, refl, subst, zero}
use Rattle.std.proofs.lemmas.Bool.Decides.{nat_tests}
use Rattle.std.proofs.lemmas.Option.{get_or_from_slice_get, slice_get_within}
use Rattle.std.specs.List.{All}
use Rattle.fmp_image_bytes.specs.Images.{ImageTables}
use Rattle.fmp_journal.specs.declared.entry.JournalEntry.{JournalEntry}
use Rattle.fmp_journal.specs.Seats.{AreNew, RowId, SeatState, events, new_seat}
use Rattle.fmp_journal.specs.Views.{own}
use Rattle.fmp_board.specs.Boards.{ClosedState, HasCounted, IsCountedBy}

by_place : {X : Type 0} (P : X → Type 0) (xs : List X) (i : ℕ) (x : X) → All P xs → slice_get xs i ≡ Some x → P x
by_place P xs i x all found = subst P (get_or_from_slice_get xs i x x found) (all i x (slice_get_within xs i x found))

same_number : (n : ℕ) → (n == n) ≡ true
same_number n = grind (arith, nat_tests)

counts_first : (b : Bool) (x : JournalEntry) (rest : List JournalEntry) → b ≡ true → 0 < length (cond b (x ∷ rest) rest)
counts_first true x rest is = omega arith
counts_first false x rest is = absurd (cc is)

-- the seat of the first entry has one of its own
one_counted : (x : JournalEntry) (journal : List JournalEntry) → 0 < length (own x.seat (x ∷ journal))
one_counted x journal = counts_first (x.seat == x.seat) x (own x.seat journal) (same_number x.seat)

no_entry : (row : RowId) (seats : List SeatState) (journal : List JournalEntry) → AreNew row seats
    → All (λ x. x.seat < row.seats) journal
    → All (HasCounted journal) seats → journal ≡ []
no_entry row seats [] new of_row counted = refl
no_entry row seats (x ∷ journal) new of_row counted =
    let seat : SeatState = new_seat row x.seat in
    let none = by_place (HasCounted (x ∷ journal)) seats x.seat seat counted
    (new.1 x.seat (of_row zero x (omega arith))) in
    absurd (omega (arith, none.1, one_counted x journal))

-- a board that all of its seats close, none of which has counted an entry, has an empty journal
pub none_written : (i : ImageTables) (n : ℕ) (row : RowId) (seats : List SeatState) (closed : ClosedState)
    → IsCountedBy i n row.capacity row.seats seats closed
    → AreNew row seats → closed.events ≡ []
none_written i n row seats closed c new =
    c.events_are ∙ ap events (no_entry row seats c.journal new c.journal_is.seats c.counted)

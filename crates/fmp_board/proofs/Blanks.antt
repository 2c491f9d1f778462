-- The limits of a row that was made for them.
use Rattle.std.proofs.Common.{◌≡◌, ℕ, ◌^◌, ◌≤◌, sym, subst}
use Rattle.fmp_journal.specs.Seats.{RowId}
use Rattle.fmp_board.specs.Boards.{InRange, IsRoom}

-- they are those of the row
pub range_of : (n k m : ℕ) (row : RowId) → InRange n k m → row.capacity ≡ k → row.seats ≡ m
    → InRange n row.capacity row.seats
range_of n k m row range capacity seats =
    subst (λ (c : ℕ). InRange n c row.seats) (sym capacity) (subst (λ (s : ℕ). InRange n k s) (sym seats) range)

-- and it has words for no more events than a kernel takes
pub room_of : (n k m : ℕ) (row : RowId) → InRange n k m → row.capacity ≡ k → row.seats ≡ m → IsRoom row k m
room_of n k m row range capacity seats =
    record {
      capacity_is = sym capacity;
      seats_is = sym seats;
      most = subst (λ
          (c : ℕ). c ≤ 2 ^ 20) (sym capacity) range.most_events;
    }

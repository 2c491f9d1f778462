use Rattle.std.proofs.Common.{◌≡◌, ◌++◌, List, All, length}
use Rattle.std.specs.Vec.Iter.{into_iter_items, into_iter_len}
use Rattle.fmp_journal.specs.Seats.{SeatState}
use Rattle.fmp_board.specs.Boards.{HasCounted, IsAt}
use Rattle.fmp_board.proofs.desk.Desk.show_all.Given as goal

-- the first seats were shown the journal
abbrev pub invariant-loop-seat : goal.invariant-loop-seat
invariant-loop-seat g l =
    let rest = l.seat-iterator in
    record {
      first : List SeatState;
      are : first ++ into_iter_items rest ≡ l.fn.seats.items;
      counted : All (HasCounted l.fn.self.book.journal) first;
      book : l.self.book ≡ l.fn.self.book;
      at : All (IsAt g.S.Site.row_id) (into_iter_items rest);
      size : into_iter_len rest ≡ length (into_iter_items rest);
    }

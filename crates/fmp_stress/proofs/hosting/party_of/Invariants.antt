use Rattle.std.proofs.Common.{All}
use Rattle.std.specs.Vec.Iter.{into_iter_items}
use Rattle.fmp_board.specs.Boards.{IsAt}
use Rattle.fmp_stress.proofs.hosting.party_of.Given as goal

-- the seats that are left are those of the board
abbrev pub invariant-loop-seat : goal.invariant-loop-seat
invariant-loop-seat g l = All (IsAt g.S.Site.row_id) (into_iter_items l.seat-iterator)

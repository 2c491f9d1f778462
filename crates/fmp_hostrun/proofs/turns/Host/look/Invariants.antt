use Rattle.std.proofs.Common.{◌≡◌, MatchBool, None, Some}
use Rattle.fmp_board.specs.Boards.{IsAt}
use Rattle.fmp_board.specs.Outcomes.{Drew, IsDrawn, IsOutcome}
use Rattle.fmp_board.specs.Visits.{Visited}
use Rattle.fmp_hostrun.proofs.turns.Host.look.Given as goal

abbrev pub invariant-loop-look : goal.invariant-loop-look
invariant-loop-look g l =
    let i = g.B.Feed.image in
    let n = g.B.Feed.bound in
    IsAt g.B.Feed.row_id l.seat
    × Visited i n g.B.Feed.row_id l.fn.seat l.seat
    × (l.seat.mine ≡ l.fn.seat.mine)
    × MatchBool l.found
    (IsOutcome l.workspace × Drew i n l.seat.seen l.fn.p (Some l.workspace.ticket)
    × IsDrawn i n l.seat.seen l.workspace.ticket)
    (Drew i n l.seat.seen l.fn.p None)

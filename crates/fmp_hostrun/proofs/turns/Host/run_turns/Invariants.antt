use Rattle.std.proofs.Common.{◌≡◌, ◌+◌, ◌≤◌}
use Rattle.fmp_base.specs.declared.events.Event.TheVariants.{Run}
use Rattle.fmp_board.specs.Boards.{IsAt}
use Rattle.fmp_hostrun.specs.Works.{Added, DidTimes}
use Rattle.fmp_hostrun.proofs.turns.Host.run_turns.Given as goal

abbrev pub invariant-loop-turn : goal.invariant-loop-turn
invariant-loop-turn g l =
    IsAt g.B.Feed.row_id l.seat
    × Added g.B.Feed.image g.B.Feed.bound g.B.Feed.row_id (Run l.fn.p) l.turn l.fn.seat l.seat
    × DidTimes g.B.Feed.image g.B.Feed.bound g.B.Feed.row_id (Run l.fn.p) l.turn l.fn.seat l.seat
    × (l.seat.mine ≡ l.fn.seat.mine + l.journaled)
    × (l.journaled ≤ l.turn)

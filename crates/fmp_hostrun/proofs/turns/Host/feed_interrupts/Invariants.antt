use Rattle.std.proofs.Common.{◌≡◌, ◌+◌, ◌≤◌}
use Rattle.fmp_base.specs.declared.events.Event.TheVariants.{Int}
use Rattle.fmp_board.specs.Boards.{IsAt}
use Rattle.fmp_hostrun.specs.Works.{Added, DidTimes}
use Rattle.fmp_hostrun.proofs.turns.Host.feed_interrupts.Given as goal

abbrev pub invariant-loop-time : goal.invariant-loop-time
invariant-loop-time g l =
    let e = Int l.fn.interrupt in
    IsAt g.B.Feed.row_id l.seat
    × Added g.B.Feed.image g.B.Feed.bound g.B.Feed.row_id e l._time l.fn.seat l.seat
    × DidTimes g.B.Feed.image g.B.Feed.bound g.B.Feed.row_id e l._time l.fn.seat l.seat
    × (l.seat.mine ≡ l.fn.seat.mine + l.journaled)
    × (l.journaled ≤ l._time)

use Rattle.std.proofs.Common.{arith}
use Rattle.fmp_board.proofs.Blanks.{range_of, room_of}
use Rattle.fmp_board.proofs.Entering.{replay_begins}
use Rattle.fmp_board.proofs.blank.Blank.made.Goals as goal

pub new-requires : goal.new-requires
new-requires c = omega (arith, c.requires.some_events)

pub of-requires-clause-range : goal.of-requires-clause-range
of-requires-clause-range c =
    let made = c.in_ok-row.ensures.row in
    range_of c.args.n c.args.k c.args.m c.in_ok-row.field-0.row c.requires made.0 made.1

pub of-requires-clause-kernel : goal.of-requires-clause-kernel
of-requires-clause-kernel c = replay_begins _ _ _ _ _ c.in_ok-kernel.ensures

pub of-requires-clause-limits : goal.of-requires-clause-limits
of-requires-clause-limits c =
    let made = c.in_ok-row.ensures.row in
    room_of c.args.n c.args.k c.args.m c.in_ok-row.field-0.row c.requires made.0 made.1

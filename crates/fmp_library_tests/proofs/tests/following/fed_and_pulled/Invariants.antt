use Rattle.fmp_board.specs.Boards.{IsAt}
use Rattle.fmp_library_tests.proofs.tests.following.fed_and_pulled.Given as goal

abbrev pub invariant-loop-event : goal.invariant-loop-event
invariant-loop-event g l = IsAt g.S.Site.row_id l.seat

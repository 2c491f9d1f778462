use Rattle.fmp_board.proofs.Untouched.{none_written}
use Rattle.fmp_board.proofs.board.Board.close_all.Goals as goal

pub returns-clause-empty : goal.returns-clause-empty
returns-clause-empty g c = none_written g.S.Site.image g.S.Site.bound g.S.Site.row_id _ _ c.close_all.ensures.counted

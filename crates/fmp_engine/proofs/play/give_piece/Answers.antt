use Rattle.std.proofs.Common.{sym}
use Rattle.fmp_engine.proofs.OutletLemmas.{given_nothing, left_is}
use Rattle.fmp_engine.proofs.PlayLemmas.{on_ok_then}
use Rattle.fmp_engine.proofs.play.give_piece.Goals as goal

pub returns-then-len-lt-PIECE-clause-ok : goal.returns-then-len-lt-PIECE-clause-ok
returns-then-len-lt-PIECE-clause-ok g c = given_nothing g.T.Outlet.gave _ c.args.page.now
    (g.met.T.Outlet.gave_nothing _)

pub returns-clause-ok : goal.returns-clause-ok
returns-clause-ok g c =
    on_ok_then c.give_page.result
    (λ h. left_is g.T.Outlet.gave _ _ _ c.give_page.new.page c.args.page.now (sym c.give_page.ensures.left) h)
    c.give_page.ensures.ok

use Rattle.std.proofs.Common.{List, ℕ, subst}
use Rattle.fmp_engine.specs.Outlets.{GivenFront}
use Rattle.fmp_engine.proofs.OutletLemmas.{given_all}
use Rattle.fmp_engine.proofs.PlayLemmas.{on_err_then, on_ok_then}
use Rattle.fmp_engine.proofs.play.give_page.Goals as goal

pub returns-clause-ok : goal.returns-clause-ok
returns-clause-ok g c =
    on_ok_then c.give-given.result
    (λ h. given_all g.T.Outlet.gave _ _ c.bytes.result.now c.args.page.now c.bytes.ensures h) c.give-given.ensures.ok

pub returns-clause-err : goal.returns-clause-err
returns-clause-err g c =
    on_err_then c.give-given.result
    (λ h. subst (λ (xs : List ℕ). GivenFront g.T.Outlet.stopped c.args.outlet.now c.give-given.new.self xs)
    c.bytes.ensures h)
    c.give-given.ensures.err

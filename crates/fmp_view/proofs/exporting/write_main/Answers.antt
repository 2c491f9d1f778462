use Rattle.std.proofs.lemmas.Result.{on_err_weaker}
use Rattle.fmp_view.proofs.BegunDeeds.{main_begun}
use Rattle.fmp_view.proofs.exporting.write_main.Goals as goal

pub returns-clause-begun : goal.returns-clause-begun
returns-clause-begun g c =
    on_err_weaker c.write_in.result (main_begun _ _ _ _ _ c.if-keeps_main.false) c.write_in.ensures.begun

use Rattle.fmp_searching.proofs.Doing.{on_err}
use Rattle.fmp_view.proofs.BegunDeeds.{begun_nothing}
use Rattle.fmp_view.proofs.targeting.make_target.Goals as goal

pub returns-in_err-make_folder-clause-begun : goal.returns-in_err-make_folder-clause-begun
returns-in_err-make_folder-clause-begun g c = on_err _ (begun_nothing _ _)

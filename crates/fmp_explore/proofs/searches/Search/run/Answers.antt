use Rattle.std.proofs.lemmas.Result.{err_from_is_err_and}
use Rattle.fmp_explore.proofs.searches.Search.run.Goals as goal

pub returns-in_err-kernels : goal.returns-in_err-kernels
returns-in_err-kernels g c =
    rw ((err_from_is_err_and c.from_residual.result c.from_residual.ensures.1).1) tt

pub examine_all-ending-requires-clause-begun : goal.examine_all-ending-requires-clause-begun
examine_all-ending-requires-clause-begun g c = c.requires.begun

pub examine_all-ending-requires-clause-crew : goal.examine_all-ending-requires-clause-crew
examine_all-ending-requires-clause-crew g c = c.requires.crew

pub examine_all-ending-requires-clause-kernels : goal.examine_all-ending-requires-clause-kernels
examine_all-ending-requires-clause-kernels g c = c.in_ok-kernels.ensures

pub returns : goal.returns
returns g c = c.examine_all-ending.ensures

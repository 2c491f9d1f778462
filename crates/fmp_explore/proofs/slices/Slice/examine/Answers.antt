use Rattle.std.proofs.lemmas.Result.{err_from_is_err_and}
use Rattle.fmp_explore.proofs.slices.Slice.examine.Goals as goal

pub returns-in_err-kernels : goal.returns-in_err-kernels
returns-in_err-kernels c = λ whole taken.
    rw ((err_from_is_err_and c.from_residual.result c.from_residual.ensures.1).1) tt

pub examine_on-done-requires-clause-search : goal.examine_on-done-requires-clause-search
examine_on-done-requires-clause-search c = c.requires

pub examine_on-done-requires-clause-kernels : goal.examine_on-done-requires-clause-kernels
examine_on-done-requires-clause-kernels c = c.in_ok-kernels.ensures

pub returns : goal.returns
returns c = c.examine_on-done.ensures

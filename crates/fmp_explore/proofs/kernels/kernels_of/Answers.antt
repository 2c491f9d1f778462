use Rattle.std.proofs.lemmas.Result.{err_from_is_err_and}
use Rattle.fmp_witness.proofs.OverLemmas.{over_first}
use Rattle.fmp_explore.proofs.kernels.kernels_of.Goals as goal

pub returns-in_err-top : goal.returns-in_err-top
returns-in_err-top c = rw ((err_from_is_err_and c.from_residual.result c.from_residual.ensures.1).1) tt

pub with_work-requires : goal.with_work-requires
with_work-requires c =
    let s = c.args.subject.now in
    over_first s.image.now s.n c.in_ok-top.top c.in_ok-top.ensures

pub returns : goal.returns
returns c = c.with_work.ensures

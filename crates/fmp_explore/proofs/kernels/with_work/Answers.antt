use Rattle.std.proofs.lemmas.Result.{err_from_is_err_and}
use Rattle.fmp_witness.proofs.OverLemmas.{over_first}
use Rattle.fmp_explore.proofs.kernels.with_work.Goals as goal

pub returns-in_err-work : goal.returns-in_err-work
returns-in_err-work c = rw ((err_from_is_err_and c.from_residual.result c.from_residual.ensures.1).1) tt

pub returns : goal.returns
returns c =
    let s = c.args.subject.now in
    record { top = c.requires; work = over_first s.image.now s.n c.in_ok-work.work c.in_ok-work.ensures }

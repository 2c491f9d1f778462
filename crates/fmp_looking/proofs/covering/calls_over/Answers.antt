use Rattle.std.proofs.lemmas.Result.{err_from_is_err_and}
use Rattle.fmp_looking.proofs.covering.calls_over.Goals as goal

pub returns-in_err-kernel : goal.returns-in_err-kernel
returns-in_err-kernel c = rw ((err_from_is_err_and c.from_residual.result c.from_residual.ensures.1).1) tt

pub calls_on-seen-requires-clause-kernel : goal.calls_on-seen-requires-clause-kernel
calls_on-seen-requires-clause-kernel c = c.in_ok-kernel.ensures

pub calls_on-seen-requires-clause-few : goal.calls_on-seen-requires-clause-few
calls_on-seen-requires-clause-few c = c.requires.few

pub returns : goal.returns
returns c = c.calls_on-seen.ensures

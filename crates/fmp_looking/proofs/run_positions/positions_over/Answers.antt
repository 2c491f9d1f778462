use Rattle.std.proofs.lemmas.Result.{err_from_is_err_and}
use Rattle.fmp_looking.proofs.run_positions.positions_over.Goals as goal

pub returns-in_err-kernel : goal.returns-in_err-kernel
returns-in_err-kernel c = rw ((err_from_is_err_and c.from_residual.result c.from_residual.ensures.1).1) tt

pub positions_on-made-requires-clause-kernel : goal.positions_on-made-requires-clause-kernel
positions_on-made-requires-clause-kernel c = c.in_ok-kernel.ensures

pub positions_on-made-requires-clause-few : goal.positions_on-made-requires-clause-few
positions_on-made-requires-clause-few c = c.requires.few

pub returns : goal.returns
returns c = c.positions_on-made.ensures

use Rattle.std.proofs.lemmas.Result.{err_from_is_err_and}
use Rattle.fmp_looking.proofs.driving.driven.Goals as goal

pub returns-in_err-kernel : goal.returns-in_err-kernel
returns-in_err-kernel c = rw ((err_from_is_err_and c.from_residual.result c.from_residual.ensures.1).1) tt

pub drive_on-drive-requires-clause-kernel : goal.drive_on-drive-requires-clause-kernel
drive_on-drive-requires-clause-kernel c = c.in_ok-kernel.ensures

pub drive_on-drive-requires-clause-few : goal.drive_on-drive-requires-clause-few
drive_on-drive-requires-clause-few c = c.requires.few

pub returns : goal.returns
returns c = c.drive_on-drive.ensures

use Rattle.std.proofs.Common.{refl}
use Rattle.fmp_view.proofs.asking.expect_asked.Goals as goal

pub returns : goal.returns
returns c = (c.run_of-run.result, c.expecting_of.result, refl, c.run_of-run.ensures, c.expecting_of.ensures)

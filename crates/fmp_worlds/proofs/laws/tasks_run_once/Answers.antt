use Rattle.fmp_worlds.proofs.SettledLaws.{run-run_once}
use Rattle.fmp_worlds.proofs.laws.tasks_run_once.Goals as goal

pub returns : goal.returns
returns g c sys M n es = run-run_once sys M n es

use Rattle.fmp_worlds.proofs.SettledLaws.{IsSettled-run_once}
use Rattle.fmp_kernel.proofs.kernel.Kernel.no_task_runs_twice.Goals as goal

pub returns : goal.returns
returns g c =
    let k = c.self.inside.runner in
    rw (← c.self.view_is) (IsSettled-run_once k.system k.world.state c.self.invariant.1.state)

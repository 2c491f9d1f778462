use Rattle.fmp_trials.proofs.bench.Bench.is_idle.Goals as goal

pub returns : goal.returns
returns g c = rw (← c.self.view_is) c.is_idle.ensures

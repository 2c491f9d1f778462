use Rattle.fmp_kernel.proofs.runner.Runner.contexts_fit.Goals as goal

pub returns-clause-places : goal.returns-clause-places
returns-clause-places g c = rw (← c.self.view_is) c.self.invariant.1

pub returns-clause-fitting : goal.returns-clause-fitting
returns-clause-fitting g c = rw (← c.self.view_is) c.self.invariant.3

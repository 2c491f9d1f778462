use Rattle.fmp_worlds.proofs.Places.{kept-state}
use Rattle.fmp_worlds.proofs.SettledLaws.{setup-settled, step-settled}
use Rattle.fmp_worlds.proofs.laws.worlds_are_settled.Goals as goal

pub returns-clause-setup : goal.returns-clause-setup
returns-clause-setup g c sys M = setup-settled sys M

pub returns-clause-step : goal.returns-clause-step
returns-clause-step g c sys M n w e d h k = step-settled sys M n w e d h k

pub returns-clause-kept : goal.returns-clause-kept
returns-clause-kept g c sys M n w v e p k = kept-state sys M n w v e p k

use Rattle.std.proofs.Common.{arith}
use Rattle.fmp_base.specs.Setups.{setup}
use Rattle.fmp_worlds.proofs.SettledLaws.{setup-settled, run-settled}
use Rattle.fmp_worlds.proofs.StampLaws.{stamp-append, equal_stamps}
use Rattle.fmp_worlds.proofs.laws.equal_stamps_mean_the_same_actor.Goals as goal

pub returns-clause-never_falls : goal.returns-clause-never_falls
returns-clause-never_falls g c = λ sys M n es fs p. omega (arith, stamp-append sys M n (setup sys M).world es fs p)

pub returns-clause-same : goal.returns-clause-same
returns-clause-same g c = λ sys M n es fs p a h e.
    equal_stamps sys M n (setup sys M).world es fs p a (run-settled sys M n (setup sys M).world es
    (setup-settled sys M)) e h

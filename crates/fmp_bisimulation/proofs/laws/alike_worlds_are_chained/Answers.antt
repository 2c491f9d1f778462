use Rattle.fmp_bisimulation.proofs.WorldLaws.{worlds-refl, worlds-sym, worlds-chained}
use Rattle.fmp_bisimulation.proofs.laws.alike_worlds_are_chained.Goals as goal

pub returns-clause-same : goal.returns-clause-same
returns-clause-same g c = λ sys w h. worlds-refl sys w h

pub returns-clause-turned : goal.returns-clause-turned
returns-clause-turned g c = λ sys v w h. worlds-sym sys v w h

pub returns-clause-chained : goal.returns-clause-chained
returns-clause-chained g c = λ sys u v w h k. worlds-chained sys u v w h k

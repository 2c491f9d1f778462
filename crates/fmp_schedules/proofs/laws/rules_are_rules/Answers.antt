use Rattle.fmp_bisimulation.specs.Alike.{Alike}
use Rattle.fmp_schedules.specs.Likeness.{AnyFits}
use Rattle.fmp_schedules.proofs.LikenessLaws.{alike-likeness}
use Rattle.fmp_schedules.proofs.RuleLaws.{may_come-same, watch-blind}
use Rattle.fmp_schedules.proofs.laws.rules_are_rules.Goals as goal

pub returns-clause-rules : goal.returns-clause-rules
returns-clause-rules g c = λ rules sys M n. may_come-same sys M n (Alike sys) (λ w e. AnyFits w e) (alike-likeness sys M n) rules

pub returns-clause-watch : goal.returns-clause-watch
returns-clause-watch g c = λ rules forbidden even. watch-blind forbidden even rules

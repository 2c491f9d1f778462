use Rattle.std.proofs.lemmas.Result.{IfOk-weaker}
use Rattle.fmp_explore.proofs.exploring.explore_beside.Goals as goal

pub returns-clause-holds : goal.returns-clause-holds
returns-clause-holds g c =
    IfOk-weaker c.explore_subject.result _ _ (λ r h yes. let x = h yes in x.holds) c.explore_subject.ensures.holds

pub returns-clause-there : goal.returns-clause-there
returns-clause-there g c =
    IfOk-weaker c.explore_subject.result _ _ (λ r h yes. let x = h yes in x.there) c.explore_subject.ensures.holds

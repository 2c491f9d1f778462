use Rattle.fmp_live.proofs.LikeLaws.{alike-like, like-chained, like-states, like-sym}
use Rattle.fmp_live.proofs.laws.like_worlds_are_chained.Goals as goal

pub returns-clause-alike : goal.returns-clause-alike
returns-clause-alike c = λ outs sys bodies v w h. alike-like outs sys bodies v w h

pub returns-clause-turned : goal.returns-clause-turned
returns-clause-turned c = λ outs sys bodies v w h. like-sym outs sys bodies v w h

pub returns-clause-chained : goal.returns-clause-chained
returns-clause-chained c = λ outs sys bodies. like-chained outs sys bodies

pub returns-clause-states : goal.returns-clause-states
returns-clause-states c = λ outs sys bodies v w h. like-states outs sys bodies v w h

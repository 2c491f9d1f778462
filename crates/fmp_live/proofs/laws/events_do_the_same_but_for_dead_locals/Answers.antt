use Rattle.std.proofs.Common.{false}
use Rattle.fmp_live.proofs.FitLaws.{like-always, like-keeps}
use Rattle.fmp_live.proofs.LikeLaws.{like-keeps_so}
use Rattle.fmp_live.proofs.laws.events_do_the_same_but_for_dead_locals.Goals as goal

pub returns-clause-each : goal.returns-clause-each
returns-clause-each c = λ sys bodies n. like-keeps_so false sys bodies n

pub returns-clause-fit : goal.returns-clause-fit
returns-clause-fit c = λ outs sys bodies n v w e h fit. like-keeps outs sys bodies n v w e h fit

pub returns-clause-states : goal.returns-clause-states
returns-clause-states c = λ outs sys bodies n v w e h. like-always sys bodies outs n v w e h

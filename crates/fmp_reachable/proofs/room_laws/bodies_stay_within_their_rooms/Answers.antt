use Rattle.fmp_reachable.proofs.BodyLaws.{deliver-within, start-within, stretch-within}
use Rattle.fmp_reachable.proofs.room_laws.bodies_stay_within_their_rooms.Goals as goal

pub returns-clause-start : goal.returns-clause-start
returns-clause-start c = λ bodies h k body e exinf. start-within bodies h k body e exinf

pub returns-clause-stretch : goal.returns-clause-stretch
returns-clause-stretch c = λ bodies h k n d w. stretch-within bodies h k n d w

pub returns-clause-reply : goal.returns-clause-reply
returns-clause-reply c = λ bodies h k d reply w. deliver-within bodies h k d reply w

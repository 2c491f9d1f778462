use Rattle.fmp_hostrun.proofs.Advancing.{starts}
use Rattle.fmp_hostrun.proofs.follower.FollowerStart.follow.Goals as goal

pub invariant_of-result : goal.invariant_of-result
invariant_of-result g c =
    starts g.S.Site.image g.S.Site.bound g.S.Site.row_id _ _ c.requires.at c.requires.place c.args.self.most
    c.args.self.begun

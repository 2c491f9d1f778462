use Rattle.fmp_live.proofs.LikeLaws.{zeroed-like}
use Rattle.fmp_live.proofs.laws.zeroed_worlds_are_like.Goals as goal

pub returns : goal.returns
returns c = λ outs sys bodies v w tables others live also settled too h.
    zeroed-like outs sys bodies v w tables others live also settled too h

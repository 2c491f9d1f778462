use Rattle.std.proofs.Common.{◌≡◌}
use Rattle.fmp_checked.proofs.Steps.{stepped}
use Rattle.fmp_checked.proofs.following.follow.Goals as goal

pub returns-in-None-clause-step : goal.returns-in-None-clause-step
returns-in-None-clause-step c =
    λ s. stepped c.args.hosted.now c.done.new.hosted c.args.text.now c.consult.new.text c.args.given
    (c.consult.ensures.free c.in-None.is) c.done.ensures.hosted (c.consult.ensures.follows c.in-None.is) s

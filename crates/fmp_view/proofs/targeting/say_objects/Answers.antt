use Rattle.fmp_searching.proofs.Doing.{only_then}
use Rattle.fmp_view.proofs.BegunDeeds.{saying_tells}
use Rattle.fmp_view.proofs.targeting.say_objects.Goals as goal

pub loop-name-preserved : goal.loop-name-preserved
loop-name-preserved g c =
    only_then _ _ _ c.loop-name.invariant (saying_tells _ _ c.say.ensures.said)

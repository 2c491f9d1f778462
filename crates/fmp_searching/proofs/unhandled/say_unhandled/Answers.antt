use Rattle.fmp_searching.proofs.Doing.{only_then}
use Rattle.fmp_searching.proofs.unhandled.say_unhandled.Goals as goal

pub loop-limit-preserved : goal.loop-limit-preserved
loop-limit-preserved g c = only_then _ _ _ c.loop-limit.invariant c.say_limit.ensures

use Rattle.fmp_looking.proofs.TestEnds.{says_more}
use Rattle.fmp_looking.proofs.rates.say_unhandled.Goals as goal

pub loop-rate-preserved : goal.loop-rate-preserved
loop-rate-preserved g c = says_more _ _ _ c.loop-rate.invariant c.say_rate.ensures

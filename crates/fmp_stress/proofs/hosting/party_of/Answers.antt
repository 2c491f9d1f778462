use Rattle.fmp_hostrun.proofs.Starting.{seats_at}
use Rattle.fmp_stress.proofs.hosting.party_of.Goals as goal

pub loop-seat-preserved : goal.loop-seat-preserved
loop-seat-preserved g c = seats_at _ _ _ _ c.loop-seat.invariant c.in-Some.ensures.steps.0

use Rattle.fmp_looking.proofs.Fresh.{room}
use Rattle.fmp_looking.proofs.timing.timing_of.Goals as goal

pub timed-timing-requires : goal.timed-timing-requires
timed-timing-requires g c = record { few = room _ _ c.in_ok-kernel.ensures.taken c.requires }

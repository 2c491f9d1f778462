use Rattle.fmp_looking.proofs.Fresh.{room}
use Rattle.fmp_looking.proofs.timeline.run_with.Goals as goal

pub run_on-run-requires : goal.run_on-run-requires
run_on-run-requires g c = record { few = room _ _ c.in_ok-kernel.ensures.taken c.requires }

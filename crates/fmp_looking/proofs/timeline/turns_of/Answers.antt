use Rattle.fmp_looking.proofs.Fresh.{room}
use Rattle.fmp_looking.proofs.timeline.turns_of.Goals as goal

pub idle_turns-turns-requires : goal.idle_turns-turns-requires
idle_turns-turns-requires g c = room _ _ c.in_ok-kernel.ensures.taken c.requires

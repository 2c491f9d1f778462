use Rattle.fmp_frames.proofs.Bodies.{calls_of_bodies}
use Rattle.fmp_frames.proofs.call_positions.CallPositions.new.Goals as goal

pub returns : goal.returns
returns c = (_, c.in_ok-bodies.ensures, calls_of_bodies _)

use Rattle.fmp_frames.proofs.DumpedRuns as laws
use Rattle.fmp_frames.proofs.laws.dumps_are_of_their_frames.Goals as goal

pub returns : goal.returns
returns c = laws.dumps_are_of_their_frames

use Rattle.fmp_frames.proofs.DumpLemmas.{no_values, nothing_left}
use Rattle.fmp_frames.proofs.dump.append_all.Goals as goal

pub returns-in_default : goal.returns-in_default
returns-in_default c = nothing_left _ _ _ (no_values _ _ _ c.in_default.len_below) c.loop-place.invariant

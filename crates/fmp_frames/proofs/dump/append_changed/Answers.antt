use Rattle.fmp_frames.proofs.DumpLemmas.{no_changes_before, no_changes_now, nothing_left}
use Rattle.fmp_frames.proofs.dump.append_changed.Goals as goal

pub returns-in_default : goal.returns-in_default
returns-in_default c = nothing_left _ _ _ (no_changes_before _ _ _ _ c.in_default.len_below) c.loop-place.invariant

pub returns-in_default-values : goal.returns-in_default-values
returns-in_default-values c =
    nothing_left _ _ _ (no_changes_now _ _ _ _ c.in_default-values.len_below) c.loop-place.invariant

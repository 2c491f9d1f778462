use Rattle.fmp_slices.proofs.Kept.{list_kept}
use Rattle.fmp_slices.proofs.contents.PageSource.write_track.Goals as goal

pub returns-clause-tokens : goal.returns-clause-tokens
returns-clause-tokens g c =
    list_kept c.end_array.result _ _ _ _ _ _ c.in_ok-begin_array.ensures.ok c.loop-place.invariant.tokens
    c.end_array.ensures.ok

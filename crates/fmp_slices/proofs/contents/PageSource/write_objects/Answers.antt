use Rattle.fmp_slices.proofs.Kept.{list_kept}
use Rattle.fmp_slices.proofs.contents.PageSource.write_objects.Goals as goal

pub returns-clause-tokens : goal.returns-clause-tokens
returns-clause-tokens c =
    list_kept c.end_list.result _ _ _ _ _ _ c.in_ok-begin_list.ensures.tokens c.loop-object.invariant.tokens
    c.end_list.ensures.tokens

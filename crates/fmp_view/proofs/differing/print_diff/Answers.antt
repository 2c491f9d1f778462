use Rattle.fmp_view.proofs.MadeEnds.{ends_compared}
use Rattle.fmp_view.proofs.differing.print_diff.Goals as goal

pub returns : goal.returns
returns g c =
    ends_compared _ _ _ _ _ _ c.difference_of-made.ensures c.print_difference.ensures.found
    c.print_difference.ensures.refused

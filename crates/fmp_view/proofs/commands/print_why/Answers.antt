use Rattle.fmp_view.proofs.MadeEnds.{ends_explained}
use Rattle.fmp_view.proofs.commands.print_why.Goals as goal

pub returns : goal.returns
returns g c =
    let told = c.print_made.ensures in
    ends_explained _ _ _ _ _ _ _ c.made_of_run-made.ensures told.printed told.status told.refused

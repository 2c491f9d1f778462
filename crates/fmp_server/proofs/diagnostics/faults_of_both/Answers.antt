use Rattle.fmp_server.proofs.diagnostics.faults_of_both.Goals as goal

pub returns : goal.returns
returns c =
    (c.in_ok-first.first, c.in_ok-told.told.items, c.in_ok-first.ensures, c.in_ok-told.ensures, c.in_ok-insert.ensures.items)

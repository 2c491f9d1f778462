use Rattle.fmp_warnings.proofs.verdicts.shown_of_steps.Goals as goal

pub returns-in-Some : goal.returns-in-Some
returns-in-Some c =
    let found = rw c.in-Some.is at c.in_ok-fault.ensures in
    (c.in-Some.fault, c.in_ok-finding.finding, found, c.in_ok-finding.ensures, c.in_ok-printed.ensures)

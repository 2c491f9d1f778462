use Rattle.fmp_looking.specs.Covered.{seen_of}
use Rattle.fmp_looking.proofs.test_coverage.covered_by.Goals as goal

pub returns-in-Ok : goal.returns-in-Ok
returns-in-Ok g c =
    (seen_of c.in_ok-seen.seen, c.in_ok-seen.ensures, c.in-Ok.ensures.tracefile, c.in-Ok.ensures.table)

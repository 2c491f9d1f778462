use Rattle.std.proofs.Common.{rules}
use Rattle.fmp_warnings.proofs.FurtherFaults.{leads_on, leads_there}
use Rattle.fmp_warnings.proofs.further.further_faults.Goals as goal
use Rattle.fmp_warnings.proofs.further.further_faults.Goals.{else-loop-round-test}
use Rattle.fmp_warnings.proofs.further.further_faults.Goals.{then-loop-round-test+in_ok-next+in_default}
use Rattle.fmp_warnings.proofs.further.further_faults.Goals.{then-loop-round-test+in_ok-next+in-Some+in_ok-tell+then-not-branch}

pub loop-round-preserved : goal.loop-round-preserved
loop-round-preserved c =
    let next = rw c.in-Some.is at c.in_ok-next.ensures in
    leads_on _ _ _ _ _ _ _ _ c.loop-round.invariant next.0 next.1 (c.in_ok-tell.ensures.added (search rules))

pub returns : goal.returns
returns c =
    let done = leads_there _ _ _ _ _ c.loop-round.invariant in
    elim c.loop-round-test.branch [
      | else-loop-round-test w ↦ rw w.told-is done
      | then-loop-round-test+in_ok-next+in_default w ↦ rw w.told-is done
      | then-loop-round-test+in_ok-next+in-Some+in_ok-tell+then-not-branch w ↦
          rw w.told-is (rw (w.in_ok-tell.ensures.none (search rules)) done)
    ]

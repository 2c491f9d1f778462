use Rattle.fmp_witness.specs.Asked.{asked_of}
use Rattle.fmp_explore.specs.Searching.{AreFound}
use Rattle.fmp_explore.proofs.finding.add_stuck.Given as goal

abbrev pub invariant-loop-suspect : goal.invariant-loop-suspect
invariant-loop-suspect g l = AreFound (asked_of l.subject) l.findings.items

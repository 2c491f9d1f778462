use Rattle.fmp_witness.specs.Asked.{asked_of}
use Rattle.fmp_explore.specs.Searching.{AreFound}
use Rattle.fmp_explore.proofs.finding.confirmed.Given as goal

abbrev pub invariant-loop-candidate : goal.invariant-loop-candidate
invariant-loop-candidate l = AreFound (asked_of l.subject) l.findings.items

use Rattle.std.proofs.Common.{◌≡◌, flat_map, take}
use Rattle.fmp_warnings.specs.Verdicts.{printed}
use Rattle.fmp_warnings.proofs.verdicts.printed_findings.Given as goal

abbrev pub invariant-loop-finding : goal.invariant-loop-finding
invariant-loop-finding l = l.out.items ≡ flat_map (printed l.form l.name) (take l.finding-index l.findings)

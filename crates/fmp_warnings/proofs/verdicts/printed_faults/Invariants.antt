use Rattle.std.proofs.Common.{◌≡◌, take}
use Rattle.fmp_warnings.specs.Verdicts.{faults_text}
use Rattle.fmp_warnings.proofs.verdicts.printed_faults.Given as goal

abbrev pub invariant-loop-fault : goal.invariant-loop-fault
invariant-loop-fault l = l.out.items ≡ faults_text l.style.form l.style.names (take l.fault-index l.faults)

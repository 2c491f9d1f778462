use Rattle.std.proofs.Common.{take}
use Rattle.fmp_witness.specs.Findings.{HasMonitor}
use Rattle.fmp_witness.proofs.breaching.follow_monitor.Given as goal

abbrev pub invariant-loop-e : goal.invariant-loop-e
invariant-loop-e l = HasMonitor l.fn.image l.fn.n l.fn.monitor (take l.e-index l.steps) l.kernel l.after

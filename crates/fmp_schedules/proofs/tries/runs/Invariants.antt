use Rattle.std.proofs.Common.{◌≡◌}
use Rattle.fmp_schedules.specs.Tries.{runs}
use Rattle.fmp_schedules.proofs.tries.runs.Given as goal

abbrev pub invariant-loop-p : goal.invariant-loop-p
invariant-loop-p l = l.runs.items ≡ runs l.p

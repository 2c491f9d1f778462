use Rattle.std.proofs.Common.{◌≡◌, ◌++◌}
use Rattle.fmp_base.specs.Systems.{tables_of}
use Rattle.fmp_schedules.specs.Tries.{requests}
use Rattle.fmp_schedules.proofs.tries.push_requests.Given as goal

abbrev pub invariant-loop-i : goal.invariant-loop-i
invariant-loop-i l = l.tries.items ≡ l.fn.tries.items ++ requests (tables_of l.sys) l.i

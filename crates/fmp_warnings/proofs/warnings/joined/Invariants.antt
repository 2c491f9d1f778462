use Rattle.std.proofs.Common.{◌≡◌, ◌++◌}
use Rattle.fmp_warnings.proofs.warnings.joined.Given as goal

abbrev pub invariant-loop-warning : goal.invariant-loop-warning
invariant-loop-warning l = l.all.items ≡ l.fn.first.items ++ l.yielded

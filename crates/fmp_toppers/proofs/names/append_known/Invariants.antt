use Rattle.std.proofs.Common.{◌≡◌, ◌++◌, drop, map}
use Rattle.fmp_toppers.specs.Names.{known}
use Rattle.fmp_toppers.proofs.names.append_known.Given as goal

abbrev pub invariant-loop-place : goal.invariant-loop-place
invariant-loop-place g l =
    l.out.items ++ known (map g.T.HasName.name_of (drop l.place l.rows))
    ≡ l.fn.out.items ++ known (map g.T.HasName.name_of l.rows)

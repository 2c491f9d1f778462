use Rattle.std.proofs.Common.{◌≡◌, drop, map}
use Rattle.fmp_toppers.specs.Names.{first_known}
use Rattle.fmp_toppers.proofs.names.first_known.Given as goal

abbrev pub invariant-loop-place : goal.invariant-loop-place
invariant-loop-place g l =
    first_known (map g.T.HasName.name_of (drop l.place l.rows)) ≡ first_known (map g.T.HasName.name_of l.rows)

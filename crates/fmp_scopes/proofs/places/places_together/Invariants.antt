use Rattle.std.proofs.Common.{◌≡◌, ◌+◌, map}
use Rattle.fmp_tasklang.specs.Layout.{local_of, total_places}
use Rattle.fmp_scopes.proofs.Sums.{left}
use Rattle.fmp_scopes.proofs.places.places_together.Given as goal

abbrev pub invariant-loop-variable : goal.invariant-loop-variable
invariant-loop-variable l = l.places + left l.variables l.variable-index ≡ total_places (map local_of l.variables)

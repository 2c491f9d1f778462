use Rattle.std.proofs.Common.{◌≡◌, ◌+◌, length}
use Rattle.fmp_tasklang.specs.Layout.{first_place}
use Rattle.fmp_scopes.specs.Scopes.{ArePlaces, locals_with}
use Rattle.fmp_scopes.proofs.locals.first_places.Given as goal

abbrev pub invariant-loop-at : goal.invariant-loop-at
invariant-loop-at l = record {
  count : length l.places.items ≡ l.at + 1;
  next : l.next ≡ first_place (locals_with l.variables) (l.at + 1);
  firsts : ArePlaces l.places.items l.variables;
}

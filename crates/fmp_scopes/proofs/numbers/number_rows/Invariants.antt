use Rattle.std.proofs.Common.{◌≡◌, ◌≤◌, drop, map, length}
use Rattle.std.specs.List.{position_from}
use Rattle.std.specs.Str.{bytes_eq}
use Rattle.fmp_base.specs.declared.names.Name.{Name}
use Rattle.fmp_base.specs.Names.{name_text}
use Rattle.fmp_tasklang.specs.Scopes.{number_or}
use Rattle.fmp_scopes.specs.Numbers.{object_named}
use Rattle.fmp_scopes.proofs.numbers.number_rows.Given as goal

abbrev pub invariant-loop-place : goal.invariant-loop-place
invariant-loop-place g l = record {
  within : l.place ≤ length l.rows;
  numbered :
      (name : Name) → object_named l.numbers name ≡
      number_or (position_from (λ (n : Name). bytes_eq (name_text name) (name_text n)) l.place
      (drop l.place (map g.T.HasName.name_of l.rows))) (object_named l.initial.numbers name);
}

abbrev pub decreases-loop-place : goal.decreases-loop-place
decreases-loop-place g l = l.place

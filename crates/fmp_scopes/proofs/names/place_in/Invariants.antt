use Rattle.std.proofs.Common.{◌≡◌, drop, map}
use Rattle.std.specs.List.{position_from}
use Rattle.std.specs.Str.{bytes_eq}
use Rattle.fmp_base.specs.declared.names.Name.{Name}
use Rattle.fmp_base.specs.Names.{name_text}
use Rattle.fmp_tasklang.specs.Scopes.{place_of}
use Rattle.fmp_scopes.proofs.names.place_in.Given as goal

abbrev pub invariant-loop-place : goal.invariant-loop-place
invariant-loop-place g l =
    position_from (λ (n : Name). bytes_eq (name_text l.name) (name_text n)) l.place
    (drop l.place (map g.T.HasName.name_of l.rows)) ≡
    place_of (name_text l.name) (map g.T.HasName.name_of l.rows)

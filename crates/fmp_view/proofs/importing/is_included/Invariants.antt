use Rattle.std.proofs.Common.{map, string_bytes, take}
use Rattle.std.specs.List.{AllByRecursion}
use Rattle.fmp_view.specs.Apart.{AreApart}
use Rattle.fmp_view.proofs.importing.is_included.Given as goal

abbrev pub invariant-loop-i : goal.invariant-loop-i
invariant-loop-i g l =
    AllByRecursion (AreApart (g.O.Outside.files l.outside) l.out)
    (take l.i (map (λ file. string_bytes file.path) l.included))

use Rattle.std.proofs.Common.{map, take}
use Rattle.std.specs.List.{AllByRecursion}
use Rattle.fmp_view.specs.Apart.{IsApartFromTexts}
use Rattle.fmp_view.specs.Exports.{in_folder}
use Rattle.fmp_view.proofs.exporting.overwrites_input.Given as goal

abbrev pub invariant-loop-i : goal.invariant-loop-i
invariant-loop-i g l =
    AllByRecursion (IsApartFromTexts (g.O.Outside.files l.outside) l.names)
    (take l.i (map (λ file. in_folder l.folder file.now) l.files))

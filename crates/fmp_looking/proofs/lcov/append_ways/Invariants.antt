use Rattle.std.proofs.Common.{◌≡◌, ◌++◌, drop}
use Rattle.std.specs.List.{flat_map}
use Rattle.fmp_looking.specs.Coverage.{way_line}
use Rattle.fmp_looking.proofs.lcov.append_ways.Given as goal

abbrev pub invariant-loop-way : goal.invariant-loop-way
invariant-loop-way l =
    l.out.items ++ flat_map (λ w. way_line w) (drop l.way-index l.ways)
    ≡ l.initial.out.items ++ flat_map (λ w. way_line w) l.ways

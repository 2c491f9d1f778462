use Rattle.std.proofs.Common.{◌≡◌, ◌++◌, drop}
use Rattle.std.specs.List.{flat_map}
use Rattle.fmp_looking.specs.Coverage.{ways_of}
use Rattle.fmp_looking.proofs.lcov.all_ways.Given as goal

abbrev pub invariant-loop-count : goal.invariant-loop-count
invariant-loop-count l =
    l.ways.items ++ flat_map (λ c. ways_of c) (drop l.count-index l.counts) ≡ flat_map (λ c. ways_of c) l.counts

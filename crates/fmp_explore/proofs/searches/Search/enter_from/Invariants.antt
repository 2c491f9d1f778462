use Rattle.fmp_explore.specs.Searching.{Grows}
use Rattle.fmp_explore.specs.Slices.{AreEntered}
use Rattle.fmp_explore.proofs.searches.Search.enter_from.Given as goal

abbrev pub invariant-loop-k : goal.invariant-loop-k
invariant-loop-k l =
    record { grows : Grows l.fn.self l.self; entered : AreEntered l.slice.search l.k l.self }

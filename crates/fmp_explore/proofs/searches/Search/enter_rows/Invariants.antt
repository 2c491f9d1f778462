use Rattle.fmp_explore.specs.Searching.{Grows}
use Rattle.fmp_explore.specs.Slices.{AreEntered}
use Rattle.fmp_explore.proofs.searches.Search.enter_rows.Given as goal

abbrev pub invariant-loop-place : goal.invariant-loop-place
invariant-loop-place g l =
    record { grows : Grows l.fn.self l.self; entered : AreEntered l.slice.search l.next l.self }

use Rattle.fmp_explore.specs.Searching.{Grows}
use Rattle.fmp_explore.specs.Slices.{AreFirst}
use Rattle.fmp_explore.proofs.searches.Search.take_rows.Given as goal

abbrev pub invariant-loop-place : goal.invariant-loop-place
invariant-loop-place l =
    record { grows : Grows l.fn.self l.self; each : AreFirst l.whole l.span.first l.place l.self }

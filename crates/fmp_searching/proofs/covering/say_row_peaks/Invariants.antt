use Rattle.std.proofs.Common.{◌≡◌, ◌++◌, drop}
use Rattle.fmp_searching.specs.Extent.{peak_words}
use Rattle.fmp_searching.specs.Lines.{numbered}
use Rattle.fmp_searching.proofs.covering.say_row_peaks.Given as goal

abbrev pub invariant-loop-i : goal.invariant-loop-i
invariant-loop-i g l =
    l.out.items
    ++ numbered (λ i x most. peak_words (g.T.HasName.name_of x) (g.N.Count.number most)) l.i
    (drop l.i l.rows) (drop l.i l.peaks)
    ≡ l.initial.out.items
    ++ numbered (λ i x most. peak_words (g.T.HasName.name_of x) (g.N.Count.number most)) 0 l.rows l.peaks

use Rattle.std.proofs.Common.{◌≡◌, ◌++◌, drop}
use Rattle.fmp_searching.specs.Extent.{unrun_word}
use Rattle.fmp_searching.specs.Lines.{numbered}
use Rattle.fmp_searching.proofs.covering.say_unrun_rows.Given as goal

abbrev pub invariant-loop-i : goal.invariant-loop-i
invariant-loop-i g l =
    l.out.items
    ++ numbered (λ i x ran. unrun_word (g.T.HasName.name_of x) ran) l.i
    (drop l.i l.rows) (drop l.i l.ran)
    ≡ l.initial.out.items
    ++ numbered (λ i x ran. unrun_word (g.T.HasName.name_of x) ran) 0 l.rows l.ran

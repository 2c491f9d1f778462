use Rattle.std.proofs.Common.{◌≡◌, ◌++◌, drop, map}
use Rattle.fmp_looking.specs.Judgements.{judged_by}
use Rattle.fmp_looking.proofs.judging.judgements_of.Given as goal

abbrev pub invariant-loop-one : goal.invariant-loop-one
invariant-loop-one g l =
    l.all.items
    ++ map (judged_by g.T.Coming.reaction (g.O.Opened.start l.opened) l.events) (drop l.one-index l.expected)
    ≡ map (judged_by g.T.Coming.reaction (g.O.Opened.start l.opened) l.events) l.expected

use Rattle.std.proofs.Common.{◌≡◌, ◌++◌, drop, length}
use Rattle.fmp_export.specs.Sources.{gaps_in}
use Rattle.fmp_export.proofs.source.gaps_between.Given as goal

abbrev pub invariant-loop-token : goal.invariant-loop-token
invariant-loop-token l =
    l.all.items ++ gaps_in l.source.text.now l.at l.to l.rest
    ≡ gaps_in l.source.text.now l.from l.to (drop l.from l.source.tokens.items)

abbrev pub decreases-loop-token : goal.decreases-loop-token
decreases-loop-token l = length l.rest

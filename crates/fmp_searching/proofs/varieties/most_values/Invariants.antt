use Rattle.std.proofs.Common.{◌≡◌, drop, max}
use Rattle.std.specs.List.{fold}
use Rattle.fmp_searching.proofs.varieties.most_values.Given as goal

abbrev pub invariant-loop-variety : goal.invariant-loop-variety
invariant-loop-variety l =
    fold (λ most v. max v.values most) l.most (drop l.variety-index l.varieties)
    ≡ fold (λ most v. max v.values most) 0 l.varieties

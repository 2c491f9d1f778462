use Rattle.std.proofs.Common.{◌≡◌, ◌++◌, drop, map}
use Rattle.fmp_searching.specs.Questions.{never_at}
use Rattle.fmp_searching.proofs.at_calls.add_nevers_at.Given as goal

abbrev pub invariant-loop-site : goal.invariant-loop-site
invariant-loop-site l =
    l.nevers.items ++ map (λ s. never_at l.at s) (drop l.site-index l.sites)
    ≡ l.initial.nevers.items ++ map (λ s. never_at l.at s) l.sites

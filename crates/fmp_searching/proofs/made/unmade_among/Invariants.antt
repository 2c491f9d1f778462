use Rattle.std.proofs.Common.{◌≡◌, ◌++◌, drop}
use Rattle.std.specs.List.{flat_map}
use Rattle.fmp_searching.specs.Made.{unmade_here}
use Rattle.fmp_searching.proofs.made.unmade_among.Given as goal

abbrev pub invariant-loop-site : goal.invariant-loop-site
invariant-loop-site l =
    l.calls.items ++ flat_map (λ site. unmade_here l.coverage site) (drop l.site-index l.sites)
    ≡ flat_map (λ site. unmade_here l.coverage site) l.sites

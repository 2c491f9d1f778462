use Rattle.std.proofs.Common.{◌≡◌, ◌++◌, drop, map}
use Rattle.std.specs.List.{flat_map}
use Rattle.fmp_searching.specs.Made.{answered_call, answered_here}
use Rattle.fmp_searching.specs.Sources.{source_tables}
use Rattle.fmp_searching.proofs.made.answered_among.Given as goal

abbrev pub invariant-loop-site : goal.invariant-loop-site
invariant-loop-site l =
    let s = source_tables l.sources in
    map answered_call l.calls.items
    ++ flat_map (λ site. answered_here l.coverage s.claim.image.code s.positions site) (drop l.site-index l.sites)
    ≡ flat_map (λ site. answered_here l.coverage s.claim.image.code s.positions site) l.sites

use Rattle.std.proofs.Common.{◌≡◌, ◌++◌, drop}
use Rattle.std.specs.List.{flat_map}
use Rattle.fmp_searching.specs.Extent.{unmade_line}
use Rattle.fmp_searching.specs.Sources.{source_tables}
use Rattle.fmp_searching.proofs.covering.say_unmade_calls.Given as goal

abbrev pub invariant-loop-site : goal.invariant-loop-site
invariant-loop-site l =
    l.out.items ++ flat_map (λ site. unmade_line (source_tables l.sources) site) (drop l.site-index l.sites)
    ≡ l.initial.out.items ++ flat_map (λ site. unmade_line (source_tables l.sources) site) l.sites

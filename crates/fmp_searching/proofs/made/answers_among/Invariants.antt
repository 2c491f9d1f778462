use Rattle.std.proofs.Common.{◌≡◌, ◌++◌, drop}
use Rattle.std.specs.List.{flat_map}
use Rattle.fmp_searching.specs.Made.{answers_here, answers_of_site}
use Rattle.fmp_searching.proofs.made.answers_among.Given as goal

abbrev pub invariant-loop-site : goal.invariant-loop-site
invariant-loop-site l =
    l.answers.items
    ++ flat_map (λ site. answers_of_site site (answers_here l.coverage site)) (drop l.site-index l.sites)
    ≡ flat_map (λ site. answers_of_site site (answers_here l.coverage site)) l.sites

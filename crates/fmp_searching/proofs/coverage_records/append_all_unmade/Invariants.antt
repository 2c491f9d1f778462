use Rattle.std.proofs.Common.{◌≡◌, ◌++◌, drop}
use Rattle.std.specs.List.{flat_map}
use Rattle.fmp_searching.specs.ExtentRecords.{unmade_record}
use Rattle.fmp_searching.specs.Sources.{source_tables}
use Rattle.fmp_searching.proofs.coverage_records.append_all_unmade.Given as goal

abbrev pub invariant-loop-site : goal.invariant-loop-site
invariant-loop-site l =
    l.out.items ++ flat_map (λ site. unmade_record (source_tables l.sources) site) (drop l.site-index l.sites)
    ≡ l.initial.out.items ++ flat_map (λ site. unmade_record (source_tables l.sources) site) l.sites

use Rattle.std.proofs.Common.{◌≡◌, ◌++◌, drop}
use Rattle.std.specs.List.{flat_map}
use Rattle.fmp_searching.specs.ExtentRecords.{varied_record}
use Rattle.fmp_searching.specs.Sources.{source_tables}
use Rattle.fmp_searching.proofs.coverage_records.append_varieties.Given as goal

abbrev pub invariant-loop-variety : goal.invariant-loop-variety
invariant-loop-variety l =
    l.out.items ++ flat_map (λ v. varied_record (source_tables l.sources) l.most v) (drop l.variety-index l.varieties)
    ≡ l.initial.out.items ++ flat_map (λ v. varied_record (source_tables l.sources) l.most v) l.varieties

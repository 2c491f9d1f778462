use Rattle.std.proofs.Common.{◌≡◌, ◌++◌, drop}
use Rattle.fmp_searching.specs.ExtentRecords.{unsaid_record}
use Rattle.fmp_searching.specs.Sources.{source_tables}
use Rattle.fmp_searching.specs.Lines.{numbered}
use Rattle.fmp_searching.proofs.coverage_records.append_each_unsaid.Given as goal

abbrev pub invariant-loop-place : goal.invariant-loop-place
invariant-loop-place l =
    l.out.items
    ++ numbered (λ place m came. unsaid_record (source_tables l.sources) place m came) l.place
    (drop l.place l.monitors) (drop l.place l.premises)
    ≡ l.initial.out.items
    ++ numbered (λ place m came. unsaid_record (source_tables l.sources) place m came) 0 l.monitors l.premises

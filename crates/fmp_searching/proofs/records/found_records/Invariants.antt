use Rattle.std.proofs.Common.{◌≡◌, ◌++◌, ◌+◌, drop}
use Rattle.fmp_searching.specs.Records.{finding_record}
use Rattle.fmp_searching.specs.Sources.{source_tables}
use Rattle.fmp_searching.specs.Lines.{numbered}
use Rattle.fmp_searching.proofs.records.found_records.Given as goal

abbrev pub invariant-loop-i : goal.invariant-loop-i
invariant-loop-i l =
    l.out.items
    ++ numbered (λ number f x. finding_record (source_tables l.sources) number f x) (l.i + 1)
    (drop l.i l.findings) (drop l.i l.seen)
    ≡ numbered (λ number f x. finding_record (source_tables l.sources) number f x) 1 l.findings l.seen

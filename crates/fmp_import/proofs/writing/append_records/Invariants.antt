use Rattle.std.proofs.Common.{◌≡◌, ◌++◌, drop, map}
use Rattle.fmp_import.specs.Written.{record_view, records_text}
use Rattle.fmp_import.proofs.writing.append_records.Given as goal

abbrev pub invariant-loop-object : goal.invariant-loop-object
invariant-loop-object l =
    l.out.items ++ records_text l.source (map record_view (drop l.object-index l.objects))
    ≡ l.initial.out.items ++ records_text l.source (map record_view l.objects)

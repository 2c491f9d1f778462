use Rattle.std.proofs.Common.{◌≡◌, ◌++◌, drop, map}
use Rattle.std.specs.List.{flat_map}
use Rattle.fmp_looking.specs.Judgements.{named_case, named_record}
use Rattle.fmp_looking.proofs.judged_cases.records_of.Given as goal

abbrev pub invariant-loop-case : goal.invariant-loop-case
invariant-loop-case l =
    l.out.items ++ flat_map (named_record l.file) (map named_case (drop l.case-index l.cases))
    ≡ flat_map (named_record l.file) (map named_case l.cases)

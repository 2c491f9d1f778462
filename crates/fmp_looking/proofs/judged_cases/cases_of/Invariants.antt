use Rattle.std.proofs.Common.{◌≡◌, ◌++◌, drop, map}
use Rattle.fmp_looking.specs.Judgements.{named_by, named_case}
use Rattle.fmp_looking.proofs.judged_cases.cases_of.Given as goal

abbrev pub invariant-loop-judgement : goal.invariant-loop-judgement
invariant-loop-judgement g l =
    map named_case l.cases.items ++ map (named_by l.expectations.text.now) (drop l.judgement-index l.judgements)
    ≡ map (named_by l.expectations.text.now) l.judgements

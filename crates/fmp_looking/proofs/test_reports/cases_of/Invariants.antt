use Rattle.std.proofs.Common.{◌≡◌, ◌++◌, drop, map, option_map}
use Rattle.fmp_looking.specs.Judgements.{named_by, named_case, tested_by}
use Rattle.fmp_looking.proofs.test_reports.cases_of.Given as goal

abbrev pub invariant-loop-line : goal.invariant-loop-line
invariant-loop-line l =
    map named_case l.cases.items
    ++ map (named_by l.text)
    (map (tested_by (option_map (λ f. f.now.trial.run.broken) l.failed)) (drop l.line-index l.lines))
    ≡ map (named_by l.text) (map (tested_by (option_map (λ f. f.now.trial.run.broken) l.failed)) l.lines)

use Rattle.std.proofs.Common.{◌≡◌, ◌++◌, drop, map}
use Rattle.fmp_searching.specs.Tests.{AreJudged}
use Rattle.fmp_searching.proofs.test_reports.judge_all.Given as goal

abbrev pub invariant-loop-one : goal.invariant-loop-one
invariant-loop-one l = record {
  judged : AreJudged l.sources.named.strict l.searched.question.now l.searched.report.now l.searched.seen.now
      l.tests.items;
  kinds : map (λ t. t.kind) l.tests.items ++ map (λ t. t.kind) (drop l.one-index l.asked) ≡ map (λ t. t.kind) l.asked;
}

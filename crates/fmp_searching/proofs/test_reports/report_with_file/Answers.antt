use Rattle.std.proofs.Common.{◌∙◌}
use Rattle.std.proofs.lemmas.Result.{IfOk-weaker}
use Rattle.fmp_searching.specs.Sources.{source_tables}
use Rattle.fmp_searching.proofs.FirstFindings.{asked_both, two_suites}
use Rattle.fmp_searching.proofs.test_reports.report_with_file.Goals as goal

pub returns : goal.returns
returns c =
    let s = source_tables c.args.sources.now in
    IfOk-weaker c.judged_report.result _ _
    (λ out is. two_suites s _ _ c.in_ok-sentences.sentences.items c.in_ok-tests.tests.items out.items
    (asked_both s _ _ c.requires.file
    ((rw c.deref.ensures.value at c.in_ok-sentences.ensures.kinds) ∙ c.in_ok-asked.ensures)
    ((rw c.deref-2.ensures.value at c.in_ok-tests.ensures.kinds) ∙ c.in_ok-others.ensures))
    (rw c.requires.question at c.in_ok-sentences.ensures.judged)
    (rw c.requires.question at c.in_ok-tests.ensures.judged) is)
    c.judged_report.ensures

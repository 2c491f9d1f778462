use Rattle.std.proofs.lemmas.Result.{IfOk-weaker}
use Rattle.fmp_searching.proofs.exploring.explored_image.Goals as goal

pub returns : goal.returns
returns g c =
    IfOk-weaker c.explored_report-explored.result _ _
    (λ e tells. record {
      report = c.in_ok-report.report;
      tells = tells;
      found = c.in_ok-report.ensures.findings;
      nothing = c.in_ok-report.ensures.holds;
    }) c.explored_report-explored.ensures

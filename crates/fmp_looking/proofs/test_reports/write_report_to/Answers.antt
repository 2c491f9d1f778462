use Rattle.std.proofs.lemmas.Result.{on_ok_weaker}
use Rattle.fmp_looking.proofs.test_reports.write_report_to.Goals as goal

pub returns-in-Ok-clause-ok : goal.returns-in-Ok-clause-ok
returns-in-Ok-clause-ok g c =
    on_ok_weaker c.write_to.result
    (λ h. (c.in-Ok.report.items, c.in-Ok.ensures, rw c.deref.ensures.value at h)) c.write_to.ensures.ok

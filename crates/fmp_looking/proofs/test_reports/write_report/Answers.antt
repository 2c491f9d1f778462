use Rattle.std.proofs.Common.{option_map}
use Rattle.std.proofs.lemmas.Result.{on_ok_weaker}
use Rattle.fmp_looking.proofs.TestEnds.{report_of_borrowed, reports_some}
use Rattle.fmp_looking.proofs.test_reports.write_report.Goals as goal

pub returns-in-Some-clause-ok : goal.returns-in-Some-clause-ok
returns-in-Some-clause-ok g c =
    let done = g.O.Outside.done in
    on_ok_weaker c.write_report_to.result
    (λ h. reports_some c.args.read.now (option_map (λ f. f.now) c.args.failed) c.in-Some.out h.0
    (done c.args.outside.now) (done c.write_report_to.new.outside) c.in-Some.is
    (report_of_borrowed c.args.read.now c.args.failed h.0 h.1) h.2) c.write_report_to.ensures.ok

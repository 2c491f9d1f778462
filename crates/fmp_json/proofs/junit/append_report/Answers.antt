use Rattle.std.proofs.Common.{◌++◌, codes}
use Rattle.std.proofs.lemmas.Result.{on_ok_weaker}
use Rattle.fmp_json.specs.Junit.{report_text, suites_text}
use Rattle.fmp_json.proofs.Appended.{two}
use Rattle.fmp_json.proofs.junit.append_report.Goals as goal

pub returns : goal.returns
unfolding report_text
returns c =
    let p = codes "<?xml version=\"1.0\" encoding=\"UTF-8\"?>\n<testsuites>\n" in
    let q = suites_text c.args.suites.now in
    let r = codes "</testsuites>\n" in
    on_ok_weaker c.append-2.result
    (λ e. two c.args.out.now.items p (q ++ r) _ _ c.in_ok-append.ensures
    (two c.append.new.out.items q r _ _ c.in_ok-append_suites.ensures e)) c.append-2.ensures

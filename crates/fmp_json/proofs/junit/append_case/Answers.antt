use Rattle.std.proofs.Common.{◌++◌, codes}
use Rattle.std.proofs.lemmas.Result.{on_ok_weaker}
use Rattle.fmp_json.specs.Junit.{case_text, place_text, verdict_text}
use Rattle.fmp_json.proofs.Appended.{two}
use Rattle.fmp_json.proofs.junit.append_case.Goals as goal

pub returns : goal.returns
unfolding case_text
returns c =
    let p = codes "    <testcase" in
    let q = place_text c.args.file.now c.args.case.now in
    let r = verdict_text c.args.case.now.verdict in
    on_ok_weaker c.append_verdict.result
    (λ e. two c.args.out.now.items p (q ++ r) _ _ c.in_ok-append.ensures
    (two c.append.new.out.items q r _ _ c.in_ok-append_place.ensures e)) c.append_verdict.ensures

use Rattle.std.proofs.Common.{◌++◌, codes}
use Rattle.std.proofs.lemmas.Result.{on_ok_weaker}
use Rattle.fmp_json.specs.Junit.{error_text, text_attribute}
use Rattle.fmp_json.proofs.Appended.{two}
use Rattle.fmp_json.proofs.junit.append_error.Goals as goal

pub returns : goal.returns
unfolding error_text
returns c =
    let p = codes ">\n      <error" in
    let q = text_attribute (codes "message") c.args.message.now in
    let r = codes "/>\n    </testcase>\n" in
    on_ok_weaker c.append-2.result
    (λ e. two c.args.out.now.items p (q ++ r) _ _ c.in_ok-append.ensures
    (two c.append.new.out.items q r _ _ c.in_ok-append_text.ensures e)) c.append-2.ensures

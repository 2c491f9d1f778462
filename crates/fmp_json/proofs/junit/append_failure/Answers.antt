use Rattle.std.proofs.Common.{◌++◌, codes}
use Rattle.std.proofs.lemmas.Result.{on_ok_weaker}
use Rattle.fmp_json.specs.Xml.{content, fit}
use Rattle.fmp_json.specs.Junit.{failure_text, text_attribute}
use Rattle.fmp_json.proofs.Appended.{two}
use Rattle.fmp_json.proofs.junit.append_failure.Goals as goal

pub returns : goal.returns
unfolding failure_text
returns c =
    let p = codes ">\n      <failure" in
    let q = text_attribute (codes "message") c.args.message.now in
    let r = codes ">" in
    let s = content (fit c.args.text.now) in
    let t = codes "</failure>\n    </testcase>\n" in
    on_ok_weaker c.append-3.result
    (λ e. two c.args.out.now.items p (q ++ (r ++ (s ++ t))) _ _ c.in_ok-append.ensures
    (two c.append.new.out.items q (r ++ (s ++ t)) _ _ c.in_ok-append_text.ensures
    (two c.append_text.new.out.items r (s ++ t) _ _ c.in_ok-append-2.ensures
    (two c.append-2.new.out.items s t _ _ c.in_ok-append_content.ensures.written e)))) c.append-3.ensures

use Rattle.std.proofs.Common.{◌++◌, ap, ◌∙◌, codes}
use Rattle.std.proofs.lemmas.Result.{on_ok_weaker}
use Rattle.fmp_import.specs.Written.{front_text, item_text, more_text, record_text, record_view}
use Rattle.fmp_import.proofs.Appended.{two}
use Rattle.fmp_import.proofs.writing.append_record.Goals as goal

pub returns : goal.returns
unfolding record_text
returns c =
    let source = c.args.source.now in
    let p = front_text source (record_view c.args.object.now) in
    let q = item_text source c.args.object.now.attribute in
    let r = more_text source c.args.object.now.rest.items in
    let s = codes " });\n" in
    let more = c.in_ok-append_more.ensures
    ∙ ap (λ is. c.append_item.new.out.items ++ more_text source is) c.deref.ensures.value in
    on_ok_weaker c.append.result
    (λ e. two c.args.out.now.items p (q ++ (r ++ s)) _ _ c.in_ok-append_front.ensures
    (two c.append_front.new.out.items q (r ++ s) _ _ c.in_ok-append_item.ensures
    (two c.append_item.new.out.items r s _ _ more e))) c.append.ensures

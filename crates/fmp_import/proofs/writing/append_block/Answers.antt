use Rattle.std.proofs.Common.{◌++◌, ap, ◌∙◌, codes, map}
use Rattle.std.proofs.lemmas.Result.{on_ok_weaker}
use Rattle.fmp_import.specs.Written.{block_text, class_text, record_view, records_text}
use Rattle.fmp_import.proofs.Appended.{two}
use Rattle.fmp_import.proofs.writing.append_block.Goals as goal

pub returns : goal.returns
unfolding block_text
returns c =
    let source = c.args.source.now in
    let p = codes "CLASS(" in
    let q = class_text c.args.block.now.class in
    let r = codes ") {\n" in
    let s = records_text source (map record_view c.args.block.now.records.items) in
    let t = codes "}\n" in
    let records = c.in_ok-append_records.ensures
    ∙ ap (λ rs. c.append-2.new.out.items ++ records_text source (map record_view rs)) c.deref.ensures.value in
    on_ok_weaker c.append-3.result
    (λ e. two c.args.out.now.items p (q ++ (r ++ (s ++ t))) _ _ c.in_ok-append.ensures
    (two c.append.new.out.items q (r ++ (s ++ t)) _ _ c.in_ok-append_class.ensures
    (two c.append_class.new.out.items r (s ++ t) _ _ c.in_ok-append-2.ensures
    (two c.append-2.new.out.items s t _ _ records e)))) c.append-3.ensures

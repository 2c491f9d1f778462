use Rattle.std.proofs.Common.{◌++◌, ap, ◌∙◌, codes}
use Rattle.std.proofs.lemmas.Result.{on_ok_weaker}
use Rattle.fmp_export.specs.Statements.{c_value, value_name}
use Rattle.fmp_export.proofs.Appended.{two}
use Rattle.fmp_export.proofs.calls.append_value.Goals as goal

pub returns : goal.returns
unfolding c_value
returns c =
    let m = c.args.margin.now in
    let p = codes "int32_t " in
    let q = value_name c.args.place in
    let r = codes " = " in
    let s = c.args.piece.now.text.items in
    let t = codes ";\n" in
    let text = c.in_ok-append-4.ensures ∙ ap (λ x. c.append-3.new.out.items ++ x) c.deref.ensures.value in
    on_ok_weaker c.append-5.result
    (λ e. two c.args.out.now.items m (p ++ (q ++ (r ++ (s ++ t)))) _ _ c.in_ok-append.ensures
    (two c.append.new.out.items p (q ++ (r ++ (s ++ t))) _ _ c.in_ok-append-2.ensures
    (two c.append-2.new.out.items q (r ++ (s ++ t)) _ _ c.in_ok-append_value_name.ensures
    (two c.append_value_name.new.out.items r (s ++ t) _ _ c.in_ok-append-3.ensures
    (two c.append-3.new.out.items s t _ _ text e))))) c.append-5.ensures

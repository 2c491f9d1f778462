use Rattle.std.proofs.Common.{◌++◌, ap, ◌∙◌, codes}
use Rattle.std.proofs.lemmas.Result.{on_ok_weaker}
use Rattle.fmp_export.specs.Pieces.{matters}
use Rattle.fmp_export.specs.Statements.{c_store, set_front}
use Rattle.fmp_export.specs.Words.{c_name}
use Rattle.fmp_export.proofs.Appended.{two}
use Rattle.fmp_export.proofs.statements.append_store.Goals as goal

pub returns : goal.returns
unfolding c_store
returns c =
    let p = set_front (matters c.args.index.now.risk c.args.value.now.risk) in
    let q = c_name c.args.array.now in
    let comma = codes ", " in
    let r = c.args.index.now.text.items in
    let s = c.args.value.now.text.items in
    let t = codes ");" in
    let front = c.in_ok-append_set_front.ensures ∙ ap (λ b. c.args.out.now.items ++ set_front b) c.matters.ensures in
    let index = c.in_ok-append-2.ensures ∙ ap (λ x. c.append.new.out.items ++ x) c.deref.ensures.value in
    let value = c.in_ok-append-4.ensures ∙ ap (λ x. c.append-3.new.out.items ++ x) c.deref-2.ensures.value in
    on_ok_weaker c.append-5.result
    (λ e. two c.args.out.now.items p (q ++ (comma ++ (r ++ (comma ++ (s ++ t))))) _ _ front
    (two c.append_set_front.new.out.items q (comma ++ (r ++ (comma ++ (s ++ t)))) _ _ c.in_ok-append_name.ensures
    (two c.append_name.new.out.items comma (r ++ (comma ++ (s ++ t))) _ _ c.in_ok-append.ensures
    (two c.append.new.out.items r (comma ++ (s ++ t)) _ _ index
    (two c.append-2.new.out.items comma (s ++ t) _ _ c.in_ok-append-3.ensures
    (two c.append-3.new.out.items s t _ _ value e)))))) c.append-5.ensures

use Rattle.std.proofs.Common.{◌++◌, ap, ◌∙◌, codes}
use Rattle.std.proofs.lemmas.Result.{on_ok_weaker}
use Rattle.fmp_export.proofs.Appended.{two}
use Rattle.fmp_toppers.specs.Declarations.{definition, interrupt_numbers}
use Rattle.fmp_toppers.specs.Lines.{numbered}
use Rattle.fmp_toppers.proofs.tables.append_interrupt_numbers.Goals as goal

pub returns : goal.returns
unfolding interrupt_numbers
returns c =
    let number = c.args.interrupt.now.number in
    let w1 = codes "#define FMP_INTNO_" in
    let w2 = codes "#define FMP_INHNO_" in
    let w3 = codes "#define FMP_INTPRI_" in
    let t1 = definition w1 number number in
    let t2 = definition w2 number number in
    let t3 = numbered w3 number in
    let t4 = codes " (-1)\n" in
    let is = c.from-number.ensures in
    let e1 = c.in_ok-append_definition.ensures ∙ ap (λ n. c.args.out.now.items ++ definition w1 n n) is in
    let e2 = c.in_ok-append_definition-2.ensures
    ∙ ap (λ n. c.append_definition.new.out.items ++ definition w2 n n) is in
    let e3 = c.in_ok-append_numbered.ensures ∙ ap (λ n. c.append_definition-2.new.out.items ++ numbered w3 n) is in
    on_ok_weaker c.append.result
    (λ e. two c.args.out.now.items t1 (t2 ++ (t3 ++ t4)) _ _ e1
    (two c.append_definition.new.out.items t2 (t3 ++ t4) _ _ e2
    (two c.append_definition-2.new.out.items t3 t4 _ _ e3 e))) c.append.ensures

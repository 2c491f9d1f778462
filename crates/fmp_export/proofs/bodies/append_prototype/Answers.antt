use Rattle.std.proofs.Common.{◌++◌, codes}
use Rattle.std.proofs.lemmas.Result.{on_ok_weaker}
use Rattle.fmp_export.specs.Bodies.{c_prototype}
use Rattle.fmp_export.specs.Words.{c_function}
use Rattle.fmp_export.proofs.Appended.{two}
use Rattle.fmp_export.proofs.bodies.append_prototype.Goals as goal

pub returns : goal.returns
unfolding c_prototype
returns c =
    let p = codes "void " in
    let q = c_function c.args.body.now.name.name in
    let r = codes "(intptr_t exinf);\n" in
    on_ok_weaker c.append-2.result
    (λ e. two c.args.out.now.items p (q ++ r) _ _ c.in_ok-append.ensures
    (two c.append.new.out.items q r _ _ c.in_ok-append_function.ensures e)) c.append-2.ensures

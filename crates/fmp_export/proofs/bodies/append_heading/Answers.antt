use Rattle.std.proofs.Common.{◌++◌, codes}
use Rattle.std.proofs.lemmas.Result.{on_ok_weaker}
use Rattle.fmp_export.specs.Bodies.{c_heading}
use Rattle.fmp_export.specs.Remarks.{c_after}
use Rattle.fmp_export.specs.Words.{c_function}
use Rattle.fmp_export.proofs.Appended.{two}
use Rattle.fmp_export.proofs.bodies.append_heading.Goals as goal

pub returns : goal.returns
unfolding c_heading
returns c =
    let p = codes "void " in
    let q = c_function c.args.name.now in
    let r = codes "(intptr_t fmp_exinf)\n{" in
    let s = c_after c.args.before.now in
    let t = codes "\n    int32_t exinf = (int32_t)fmp_exinf;\n" in
    on_ok_weaker c.append-3.result
    (λ e. two c.args.out.now.items p (q ++ (r ++ (s ++ t))) _ _ c.in_ok-append.ensures
    (two c.append.new.out.items q (r ++ (s ++ t)) _ _ c.in_ok-append_function.ensures
    (two c.append_function.new.out.items r (s ++ t) _ _ c.in_ok-append-2.ensures
    (two c.append-2.new.out.items s t _ _ c.in_ok-append_after.ensures e)))) c.append-3.ensures

use Rattle.std.proofs.Common.{◌++◌, codes}
use Rattle.std.proofs.lemmas.Result.{on_ok_weaker}
use Rattle.fmp_export.proofs.Appended.{two}
use Rattle.fmp_toppers.specs.Configuration.{interrupt_apis}
use Rattle.fmp_toppers.specs.Lines.{api_closed, numbered}
use Rattle.fmp_toppers.proofs.configuration.append_interrupt_apis.Goals as goal

pub returns : goal.returns
unfolding interrupt_apis
returns c =
    let n = c.args.number in
    let t1 = numbered (codes "CFG_INT(FMP_INTNO_") n in
    let t2 = numbered (codes ", { TA_ENAINT, FMP_INTPRI_") n in
    let t3 = numbered (codes " }); DEF_INH(FMP_INHNO_") n in
    let t4 = numbered (codes ", { TA_NULL, fmp_interrupt_") n in
    let t5 = api_closed in
    on_ok_weaker c.close_api.result
    (λ e. two c.args.out.now.items t1 (t2 ++ (t3 ++ (t4 ++ t5))) _ _ c.in_ok-append_numbered.ensures
    (two c.append_numbered.new.out.items t2 (t3 ++ (t4 ++ t5)) _ _ c.in_ok-append_numbered-2.ensures
    (two c.append_numbered-2.new.out.items t3 (t4 ++ t5) _ _ c.in_ok-append_numbered-3.ensures
    (two c.append_numbered-3.new.out.items t4 t5 _ _ c.in_ok-append_numbered-4.ensures e)))) c.close_api.ensures

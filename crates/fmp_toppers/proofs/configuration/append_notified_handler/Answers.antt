use Rattle.std.proofs.Common.{◌++◌, codes, map}
use Rattle.std.proofs.lemmas.Result.{on_ok_weaker}
use Rattle.fmp_tasklang.specs.Views.{body_view}
use Rattle.fmp_export.proofs.Appended.{two}
use Rattle.fmp_toppers.specs.Configuration.{notified_handler, plain_handler}
use Rattle.fmp_toppers.proofs.configuration.append_notified_handler.Goals as goal

pub returns : goal.returns
unfolding notified_handler
returns c =
    let t1 = codes ", { TNFY_HANDLER" in
    let t2 = plain_handler (map body_view c.args.bodies.now) c.args.cyclic.now in
    let t3 = codes " }" in
    on_ok_weaker c.append-2.result
    (λ e. two c.args.out.now.items t1 (t2 ++ t3) _ _ c.in_ok-append.ensures
    (two c.append.new.out.items t2 t3 _ _ c.in_ok-append_plain_handler.ensures e)) c.append-2.ensures

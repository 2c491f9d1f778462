use Rattle.std.proofs.Common.{◌++◌, ap, ◌∙◌, map}
use Rattle.std.proofs.lemmas.Result.{on_ok_weaker}
use Rattle.fmp_tasklang.specs.Views.{body_view}
use Rattle.fmp_export.specs.declared.files.TheConstants.{MAIN_START, MAIN_END}
use Rattle.fmp_export.specs.Bodies.{c_rows}
use Rattle.fmp_export.specs.Files.{c_main}
use Rattle.fmp_export.proofs.Appended.{two}
use Rattle.fmp_export.proofs.files.append_main.Goals as goal

pub returns : goal.returns
unfolding c_main
returns c =
    let p = MAIN_START.now in
    let q = c_rows (map body_view c.args.program.now.bodies.items) in
    let r = MAIN_END.now in
    let rows = c.in_ok-append_rows.ensures
    ∙ ap (λ bs. c.append.new.out.items ++ c_rows (map body_view bs)) c.deref.ensures.value in
    on_ok_weaker c.append-2.result
    (λ e. two c.args.out.now.items p (q ++ r) _ _ c.in_ok-append.ensures
    (two c.append.new.out.items q r _ _ rows e)) c.append-2.ensures

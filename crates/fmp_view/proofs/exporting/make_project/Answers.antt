use Rattle.std.proofs.lemmas.Result.{on_err_weaker, on_ok_weaker}
use Rattle.fmp_view.proofs.Projects.{project_begun}
use Rattle.fmp_view.proofs.exporting.make_project.Goals as goal

pub returns-clause-ok : goal.returns-clause-ok
returns-clause-ok g c =
    on_ok_weaker c.write_project.result
    (λ done. (c.in_ok-keeps_main.keeps_main, c.in_ok-keeps_main.ensures, done)) c.write_project.ensures.ok

pub returns-clause-begun : goal.returns-clause-begun
returns-clause-begun g c =
    on_err_weaker c.write_project.result
    (λ begun. (c.in_ok-keeps_main.keeps_main, c.in_ok-keeps_main.ensures, begun)) c.write_project.ensures.begun

pub returns-in_err-make_folder-clause-begun : goal.returns-in_err-make_folder-clause-begun
returns-in_err-make_folder-clause-begun g c =
    project_begun _ (g.O.Outside.files c.args.outside.now) c.args.project (g.O.Outside.done c.args.outside.now)

pub returns-in_err-keeps_main-clause-begun : goal.returns-in_err-keeps_main-clause-begun
returns-in_err-keeps_main-clause-begun g c =
    project_begun _ (g.O.Outside.files c.args.outside.now) c.args.project (g.O.Outside.done c.args.outside.now)

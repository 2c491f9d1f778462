use Rattle.std.proofs.Common.{◌∙◌, ap, subst}
use Rattle.std.proofs.lemmas.Result.{IfOk-weaker, err_from_is_err_and}
use Rattle.fmp_base.specs.Systems.{tables_of}
use Rattle.fmp_drive.specs.NextRuns.{AreNext}
use Rattle.fmp_frames.proofs.SeenLemmas.{same-sight}
use Rattle.fmp_why.specs.HistoryTables.{tables}
use Rattle.fmp_why.specs.Reports.{report}
use Rattle.fmp_frames.proofs.watching.why.Goals as goal

pub watched-requires : goal.watched-requires
watched-requires g c = record { few = c.requires.few }

pub report_of-requires : goal.report_of-requires
report_of-requires g c = c.next_runs-next.ensures.long

pub returns-in_err-watcher : goal.returns-in_err-watcher
returns-in_err-watcher g c =
    rw ((err_from_is_err_and c.from_residual.result c.from_residual.ensures.1).1) tt

pub returns : goal.returns
returns g c =
    let watcher = c.in_ok-watcher.watcher in
    let runs = c.next_runs-next.result in
    IfOk-weaker c.report_of.result _ _
    (λ text said. record {
      history = tables watcher.history;
      told = c.in_ok-watcher.ensures.told;
      runs = runs;
      next = subst (λ k. AreNext g.B.Body.meaning k runs) c.in_ok-watcher.ensures.after c.next_runs-next.ensures;
      text_is = said ∙ ap report (same-sight (tables_of c.args.sys.now) watcher _ runs c.in_ok-watcher.ensures.seen);
    })
    c.report_of.ensures

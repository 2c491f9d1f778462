use Rattle.std.proofs.Common.{◌≡◌, ◌∙◌, ◌++◌, [], ap, subst, List, ℕ, IfErr, OnOk}
use Rattle.fmp.proofs.Giving.{given_then, why_then}
use Rattle.fmp.proofs.RunLemmas.{run_refused, run_means}
use Rattle.fmp.proofs.perform.built_and_run.Goals as goal
use Rattle.fmp.specs.Giving.{GivesText, IsWhyCut}
use Rattle.fmp.specs.Performed.{IsWhyNoRun, IsWhyNotRun, RunsImage, RunsTexts, no_image}

pub returns-clause-err : goal.returns-clause-err
returns-clause-err g c = (
  no_image (c.no_image.ensures c.args.cfg.now c.args.src.now c.in-Err.ensures.refused),
  g.met.T.Outlet.gave_nothing
      _,
)

pub returns-in-Ok-clause-ok : goal.returns-in-Ok-clause-ok
returns-in-Ok-clause-ok g c =
    let b = c.in-Ok.ensures.ok in
    let same : c.deref.result.now ≡ b.bytes =
    c.deref.ensures.value ∙ b.text ∙ ap (λ (before : List ℕ). before ++ b.bytes) c.new-image.ensures.items in
    given_then g.T.Outlet.gave g.T.Outlet.stopped _ _ c.simulated.result
    (RunsImage b.bytes c.args.steps.now c.args.bound) (RunsTexts c.args.cfg.now c.args.src.now c.args.steps.now
    c.args.bound)
    (run_means c.args.cfg.now c.args.src.now c.args.steps.now b.bytes b.image b.built b.spelled c.args.bound)
    (subst (λ (image : List ℕ). OnOk c.simulated.result (GivesText g.T.Outlet.gave
    (RunsImage image c.args.steps.now c.args.bound) c.args.outlet.now c.simulated.new.outlet [])) same
    c.simulated.ensures.ok)

pub returns-in-Ok-clause-err : goal.returns-in-Ok-clause-err
returns-in-Ok-clause-err g c =
    let b = c.in-Ok.ensures.ok in
    let same : c.deref.result.now ≡ b.bytes =
    c.deref.ensures.value ∙ b.text ∙ ap (λ (before : List ℕ). before ++ b.bytes) c.new-image.ensures.items in
    why_then g.T.Outlet.gave g.T.Outlet.stopped _ _ c.simulated.result
    (IsWhyNoRun b.bytes c.args.steps.now) (IsWhyNotRun c.args.cfg.now c.args.src.now c.args.steps.now)
    (RunsImage b.bytes c.args.steps.now c.args.bound) (RunsTexts c.args.cfg.now c.args.src.now c.args.steps.now
    c.args.bound)
    (run_refused c.args.cfg.now c.args.src.now c.args.steps.now b.bytes b.image b.built b.spelled)
    (run_means c.args.cfg.now c.args.src.now c.args.steps.now b.bytes b.image b.built b.spelled c.args.bound)
    (subst (λ (image : List ℕ). IfErr c.simulated.result (IsWhyCut g.T.Outlet.gave g.T.Outlet.stopped
    (IsWhyNoRun image c.args.steps.now) (RunsImage image c.args.steps.now c.args.bound) c.args.outlet.now
    c.simulated.new.outlet)) same c.simulated.ensures.err)

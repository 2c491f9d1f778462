use Rattle.std.proofs.Common.{◌≡◌, ℕ, Option, arith, subst}
use Rattle.std.proofs.lemmas.Result.{IfOk-weaker, err_from_is_err_and}
use Rattle.fmp_base.specs.Meanings.{Meaning}
use Rattle.fmp_drive.specs.declared.driving.Driven.{Driven}
use Rattle.fmp_drive.specs.declared.plan.Plan.{Plan}
use Rattle.fmp_drive.specs.Driving.{IsDriven}
use Rattle.fmp_drive.specs.Plans.{IsFirstPlan}
use Rattle.fmp_kernel.specs.KernelViews.{KernelView}
use Rattle.fmp_looking.specs.Drives.{IsDrivenAnew}
use Rattle.fmp_looking.proofs.driving.driven_on.Goals as goal

pub returns-in_err-plan : goal.returns-in_err-plan
returns-in_err-plan g c = rw ((err_from_is_err_and c.from_residual.result c.from_residual.ensures.1).1) tt

pub drive-requires-clause-few : goal.drive-requires-clause-few
drive-requires-clause-few g c = c.requires.few

pub drive-requires-clause-one : goal.drive-requires-clause-one
drive-requires-clause-one g c = c.requires.one

pub drive-requires-clause-eight : goal.drive-requires-clause-eight
drive-requires-clause-eight g c = c.requires.eight

pub drive-requires-clause-tasks : goal.drive-requires-clause-tasks
drive-requires-clause-tasks g c = omega (arith, c.task_count-tasks.ensures)

driven_anew : {B C : Type 0} (meaning : B → Meaning C) (k after : KernelView B C)
    (processors planned tasks count most : ℕ) (seed : Option ℕ) (plan : Plan) (d : Driven)
    → planned ≡ count → tasks ≡ count → IsFirstPlan planned seed plan
    → IsDriven meaning k after plan processors tasks most d.steps.items d.stop
    → IsDrivenAnew meaning k after processors count most seed d
driven_anew meaning k after processors planned tasks count most seed plan d same is first driven =
    record {
      plan = plan;
      first = subst (λ (n : ℕ). IsFirstPlan n seed plan) same first;
      driven = subst (λ (n : ℕ). IsDriven meaning k after plan processors n most d.steps.items d.stop) is driven;
    }

pub returns : goal.returns
returns g c =
    IfOk-weaker c.drive.result _ _
    (λ d driven. driven_anew g.B.Body.meaning _ _ _ _ _ _ _ c.args.seed c.in_ok-plan.plan d c.requires.tasks
    c.task_count-tasks.ensures c.in_ok-plan.ensures driven)
    c.drive.ensures

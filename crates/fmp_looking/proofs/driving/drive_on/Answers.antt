use Rattle.std.proofs.Common.{◌≡◌, ◌∙◌, ℕ, List, Option, ap, length, refl, subst, sym}
use Rattle.std.proofs.lemmas.Result.{err_from_is_err_and}
use Rattle.fmp_base.specs.Systems.{SystemTables}
use Rattle.fmp_instructions.specs.declared.instructions.MachineContext.{MachineContext}
use Rattle.fmp_instructions.specs.Instructions.{BodyTables}
use Rattle.fmp_instructions.specs.Machine.{code_meaning}
use Rattle.fmp_drive.specs.declared.driving.Driven.{Driven}
use Rattle.fmp_kernel.specs.KernelViews.{KernelView}
use Rattle.fmp_looking.specs.Drives.{IsDrivenAnew}
use Rattle.fmp_looking.proofs.Fresh.{drive_room}
use Rattle.fmp_looking.proofs.driving.drive_on.Goals as goal

-- what is driven on, by other names of the kernel and of what is counted
driven_so : (k k' after : KernelView (List BodyTables) MachineContext) (p q tasks count most : ℕ) (seed : Option ℕ)
    (d : Driven) → k ≡ k' → p ≡ q → tasks ≡ count
    → IsDrivenAnew code_meaning k after p tasks most seed d → IsDrivenAnew code_meaning k' after q count most seed d
driven_so k k' after p q tasks count most seed d is same many h =
    subst (λ (x : KernelView (List BodyTables) MachineContext). IsDrivenAnew code_meaning x after q count most seed d)
    is
    (subst (λ (n : ℕ). IsDrivenAnew code_meaning k after q n most seed d) many
    (subst (λ (r : ℕ). IsDrivenAnew code_meaning k after r tasks most seed d) same h))

pub driven_on-requires-clause-few : goal.driven_on-requires-clause-few
driven_on-requires-clause-few c = rw c.requires.kernel (drive_room 0 c.args.events refl c.requires.few)

pub driven_on-requires-clause-one : goal.driven_on-requires-clause-one
driven_on-requires-clause-one c = c.system.ensures.ranges.processors.least

pub driven_on-requires-clause-eight : goal.driven_on-requires-clause-eight
driven_on-requires-clause-eight c = c.system.ensures.ranges.processors.most

pub driven_on-requires-clause-tasks : goal.driven_on-requires-clause-tasks
driven_on-requires-clause-tasks c =
    ap (λ (t : SystemTables). length t.tasks) c.system.ensures.tables
    ∙ sym (ap (λ (k : KernelView (List BodyTables) MachineContext). length k.system.tasks) c.requires.kernel)

pub returns-in_err-driven : goal.returns-in_err-driven
returns-in_err-driven c = rw ((err_from_is_err_and c.from_residual.result c.from_residual.ensures.1).1) tt

pub returns : goal.returns
returns c =
    record {
      after = c.driven_on.new.kernel;
      driven =
          driven_so _ _ _ _ _ _ _ _ _ _ c.requires.kernel
          (ap (λ (t : SystemTables). t.processors) c.system.ensures.tables)
          (ap (λ (k : KernelView (List BodyTables) MachineContext). length k.system.tasks) c.requires.kernel)
          c.in_ok-driven.ensures;
      next = c.next_runs-next.ensures;
    }

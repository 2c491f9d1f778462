use Rattle.std.proofs.Common.{◌∙◌, List, ap, refl}
use Rattle.std.proofs.lemmas.Result.{on_ok_weaker, err_from_is_err_and}
use Rattle.fmp_instructions.specs.declared.instructions.MachineContext.{MachineContext}
use Rattle.fmp_instructions.specs.Instructions.{BodyTables}
use Rattle.fmp_instructions.specs.Machine.{code_meaning}
use Rattle.fmp_kernel.specs.KernelViews.{KernelView}
use Rattle.fmp_looking.specs.Branches.{branch_steps}
use Rattle.fmp_looking.proofs.BranchLemmas.{of_steps}
use Rattle.fmp_looking.proofs.Fresh.{room_of_steps}
use Rattle.fmp_looking.proofs.covering.add_steps.Goals as goal

pub returns-in_err-kernel : goal.returns-in_err-kernel
returns-in_err-kernel c = rw ((err_from_is_err_and c.from_residual.result c.from_residual.ensures.1).1) tt

pub add_branch_steps-added-requires : goal.add_branch_steps-added-requires
add_branch_steps-added-requires c = record { few = rw c.in_ok-kernel.ensures (room_of_steps 0 _ refl c.requires.few) }

pub returns : goal.returns
returns c =
    on_ok_weaker c.add_branch_steps-added.result
    (λ h. of_steps 1 c.args.ways.now c.add_branch_steps-added.new.ways _ _
    (ap
    (λ (t : List BodyTables). branch_steps code_meaning t c.in_ok-kernel.kernel c.args.run.events.now)
    c.code.ensures
    ∙ ap
    (λ (k : KernelView (List BodyTables) MachineContext).
    branch_steps code_meaning c.args.run.image.now.code k c.args.run.events.now)
    c.in_ok-kernel.ensures)
    h)
    c.add_branch_steps-added.ensures

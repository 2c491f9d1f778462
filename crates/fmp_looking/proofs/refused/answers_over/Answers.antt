use Rattle.std.proofs.Common.{◌∙◌, List, length, ap, refl}
use Rattle.std.proofs.lemmas.Result.{IfOk-weaker, err_from_is_err_and}
use Rattle.fmp_instructions.specs.declared.instructions.MachineContext.{MachineContext}
use Rattle.fmp_instructions.specs.Instructions.{BodyTables}
use Rattle.fmp_instructions.specs.Machine.{code_meaning}
use Rattle.fmp_kernel.specs.KernelViews.{KernelView}
use Rattle.fmp_looking.proofs.Fresh.{room_of_steps}
use Rattle.fmp_looking.proofs.refused.answers_over.Goals as goal
use Rattle.fmp_frames.specs.Answers.{answers_in as answers_of}

pub returns-in_err-kernel : goal.returns-in_err-kernel
returns-in_err-kernel c = rw ((err_from_is_err_and c.from_residual.result c.from_residual.ensures.1).1) tt

pub answers_on-answers-requires : goal.answers_on-answers-requires
answers_on-answers-requires c = record { few = rw c.in_ok-kernel.ensures (room_of_steps 0 _ refl c.requires.few) }

pub returns : goal.returns
returns c =
    IfOk-weaker c.answers_on-answers.result _ _
    (λ answers h. h
    ∙ ap
    (λ (k : KernelView (List BodyTables) MachineContext).
    answers_of code_meaning k c.args.events.now (length c.args.image.now.system.tasks))
    c.in_ok-kernel.ensures) c.answers_on-answers.ensures

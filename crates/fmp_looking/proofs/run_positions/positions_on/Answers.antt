use Rattle.std.proofs.Common.{◌∙◌, List, ap, refl}
use Rattle.std.proofs.lemmas.Result.{IfOk-weaker}
use Rattle.fmp_instructions.specs.declared.instructions.MachineContext.{MachineContext}
use Rattle.fmp_instructions.specs.Instructions.{BodyTables}
use Rattle.fmp_instructions.specs.Machine.{code_meaning}
use Rattle.fmp_kernel.specs.KernelViews.{KernelView}
use Rattle.fmp_frames.specs.Made.{positions_made}
use Rattle.fmp_looking.proofs.Fresh.{room_of_steps}
use Rattle.fmp_looking.proofs.run_positions.positions_on.Goals as goal

pub positions_made-requires : goal.positions_made-requires
positions_made-requires c = record { few = rw c.requires.kernel (room_of_steps 0 _ refl c.requires.few) }

pub returns : goal.returns
returns c =
    IfOk-weaker c.positions_made.result _ _
    (λ made h. h
    ∙ ap
    (λ (t : List BodyTables).
    positions_made code_meaning t c.args.run.positions.now c.args.kernel.now c.args.run.events.now)
    c.code.ensures
    ∙ ap
    (λ (k : KernelView (List BodyTables) MachineContext).
    positions_made code_meaning c.args.run.image.now.code c.args.run.positions.now k c.args.run.events.now)
    c.requires.kernel) c.positions_made.ensures

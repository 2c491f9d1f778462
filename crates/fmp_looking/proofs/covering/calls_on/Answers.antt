use Rattle.std.proofs.Common.{◌∙◌, List, ap, refl}
use Rattle.std.proofs.lemmas.Result.{IfOk-weaker}
use Rattle.fmp_instructions.specs.declared.instructions.MachineContext.{MachineContext}
use Rattle.fmp_instructions.specs.Instructions.{BodyTables}
use Rattle.fmp_instructions.specs.Machine.{code_meaning}
use Rattle.fmp_kernel.specs.KernelViews.{KernelView}
use Rattle.fmp_looking.specs.Observed.{calls_seen as calls_by}
use Rattle.fmp_looking.proofs.Fresh.{room_of_steps}
use Rattle.fmp_looking.proofs.covering.calls_on.Goals as goal

pub calls_seen-requires : goal.calls_seen-requires
calls_seen-requires c = record { few = rw c.requires.kernel (room_of_steps 0 _ refl c.requires.few) }

pub returns : goal.returns
returns c =
    IfOk-weaker c.calls_seen.result _ _
    (λ seen h. h
    ∙ ap
    (λ (t : List BodyTables).
    calls_by code_meaning t c.args.run.positions.now c.args.kernel.now c.args.run.events.now c.args.calls.items)
    c.code.ensures
    ∙ ap
    (λ (k : KernelView (List BodyTables) MachineContext).
    calls_by code_meaning c.args.run.image.now.code c.args.run.positions.now k c.args.run.events.now c.args.calls.items)
    c.requires.kernel)
    c.calls_seen.ensures

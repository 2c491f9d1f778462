use Rattle.std.proofs.Common.{ℕ, [], IfOk, subst}
use Rattle.fmp_kernel.specs.Comings.{reaction_of}
use Rattle.fmp_image_bytes.specs.Images.{ImageTables}
use Rattle.fmp_instructions.specs.Machine.{code_meaning}
use Rattle.fmp_replay.specs.Replays.{kernel_after}
use Rattle.fmp_looking.specs.Traces.{IsTrace}
use Rattle.fmp_looking.proofs.built.image_trace.Goals as goal

pub returns : goal.returns
returns c =
    subst
    (λ (i : ImageTables).
    IfOk c.trace_of.result
    (λ out. IsTrace c.args.run.form i.system c.args.positions.now code_meaning (reaction_of code_meaning)
    (kernel_after i c.args.run.bound [])
    c.args.events.now out.items)) c.new-opened.ensures.image
    (subst
    (λ (b : ℕ).
    IfOk c.trace_of.result
    (λ out. IsTrace c.args.run.form c.new-opened.result.image.now.system c.args.positions.now code_meaning
    (reaction_of code_meaning) (kernel_after c.new-opened.result.image.now b []) c.args.events.now out.items))
    c.new-opened.ensures.bound c.trace_of.ensures)

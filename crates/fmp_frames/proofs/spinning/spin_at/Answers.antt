use Rattle.std.proofs.Common.{◌∙◌, ap, length, sym}
use Rattle.fmp_base.specs.States.{KernelState, processor_at}
use Rattle.fmp_why.proofs.SpinLaws.{spins-not}
use Rattle.fmp_frames.specs.Spinning.{next_call}
use Rattle.fmp_frames.proofs.spinning.spin_at.Goals as goal

pub returns-then-not-may_spin : goal.returns-then-not-may_spin
returns-then-not-may_spin g c =
    let k = c.args.kernel.now in
    let cpu = c.processor-cpu.ensures ∙ ap (λ (s : KernelState). processor_at s c.args.p) c.tables.ensures.state in
    sym (spins-not c.args.processors.now (length k.system.spin_locks) (processor_at k.world.state c.args.p)
    (next_call k.system (g.B.Body.meaning k.body) k.bound k.world c.args.p)
    (rw cpu at (sym c.may_spin.ensures ∙ c.if-not-may_spin.true)))

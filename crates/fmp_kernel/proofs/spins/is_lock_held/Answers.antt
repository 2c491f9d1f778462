use Rattle.std.proofs.Common.{sym, ◌∙◌}
use Rattle.fmp_kernel.proofs.SpinLemmas.{one_more_free}
use Rattle.fmp_kernel.proofs.spins.is_lock_held.Goals as goal

pub loop-p-preserved : goal.loop-p-preserved
loop-p-preserved c =
    one_more_free c.args.tables.now.state c.loop-p.p c.loop-p.invariant
    (rw (← c.processor.ensures) (sym c.is_spin.ensures ∙ c.if-is_spin.false))

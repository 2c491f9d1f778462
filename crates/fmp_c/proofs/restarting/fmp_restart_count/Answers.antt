use Rattle.fmp_c.proofs.Restarted.{held_restarted}
use Rattle.fmp_c.proofs.restarting.fmp_restart_count.Goals as goal

pub returns-in-Some-clause-restarted : goal.returns-in-Some-clause-restarted
returns-in-Some-clause-restarted c =
    held_restarted _ _ _ _ (rw c.replace.ensures.value at c.in-Some.ensures) c.of.ensures
    (rw c.deref_mut.ensures.value at c.restart_count.ensures)

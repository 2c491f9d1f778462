use Rattle.std.proofs.Common.{sym}
use Rattle.fmp_ticks.proofs.LeastLemmas.{none-due}
use Rattle.fmp_ticks.proofs.cyclics.Cyclics.due.Goals as goal

pub returns-then-now-self-clause-value : goal.returns-then-now-self-clause-value
returns-then-now-self-clause-value c =
    rw (← c.self.view_is) (sym (none-due c.args.now 0 c.self.inside.due_times.items
    (rw c.self.invariant.earliest at c.if-now-self.true)))

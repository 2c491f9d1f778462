use Rattle.fmp_base.proofs.Settling.{order_stays, tasks_stay}
use Rattle.fmp_base.proofs.laws.settling_keeps_the_order.Goals as goal

pub returns-clause-tasks : goal.returns-clause-tasks
returns-clause-tasks c = tasks_stay

pub returns-clause-order : goal.returns-clause-order
returns-clause-order c = order_stays

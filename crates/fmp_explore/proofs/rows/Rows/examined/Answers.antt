use Rattle.std.proofs.Common.{◌∙◌, List, subst}
use Rattle.fmp_explore.specs.States.{AreMonitorsOf}
use Rattle.fmp_schedules.specs.declared.monitor.Monitor.{Monitor}
use Rattle.fmp_explore.proofs.rows.Rows.examined.Goals as goal

pub returns-clause-told : goal.returns-clause-told
returns-clause-told c =
    record {
      few = λ limited. c.came_in-came.ensures (c.is_some.ensures ∙ limited);
      held =
          subst (λ (ss : List Monitor). AreMonitorsOf ss c.in_ok-monitors.monitors.items) c.deref-4.ensures.value
          c.in_ok-monitors.ensures;
    }

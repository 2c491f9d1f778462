use Rattle.std.proofs.Common.{◌+◌, List, subst, sym, take}
use Rattle.fmp_explore.specs.States.{AreMonitorsOf}
use Rattle.fmp_schedules.specs.declared.monitor.Monitor.{Monitor}
use Rattle.fmp_explore.proofs.MonitorLemmas.{held-more}
use Rattle.fmp_explore.proofs.standings.monitors_told.Goals as goal

pub loop-monitor-preserved : goal.loop-monitor-preserved
loop-monitor-preserved c =
    let ss = c.args.monitors.now in
    let i = c.loop-monitor.monitor-index in
    subst (λ (xs : List Monitor). AreMonitorsOf (take (i + 1) ss) xs) (sym c.in_ok-push.ensures.items)
    (held-more ss c.loop-monitor.told.items i _ c.monitor_told.result c.loop-monitor-test.true c.loop-monitor.invariant
    c.monitor_told.ensures)

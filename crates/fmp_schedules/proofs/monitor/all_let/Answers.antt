use Rattle.std.proofs.Common.{◌+◌, ◌<◌, ◌∙◌, Bool, List, ap, arith, drop, length, sym, ◌&&◌}
use Rattle.std.proofs.lemmas.List.{at_drop_more}
use Rattle.fmp_schedules.specs.declared.monitor.Monitor.{Monitor}
use Rattle.fmp_schedules.specs.Monitors.{all_let}
use Rattle.fmp_schedules.proofs.monitor.all_let.Goals as goal

pub loop-monitor-preserved : goal.loop-monitor-preserved
loop-monitor-preserved c =
    let low : c.loop-monitor.monitor-index < length c.args.monitors.now = omega arith in
    ap (λ (b : Bool). b && all_let (drop (c.loop-monitor.monitor-index + 1) c.args.monitors.now) c.args.event)
    (sym c.if-not-lets.false ∙ c.lets.ensures)
    ∙ sym
    (at_drop_more (λ (ms : List Monitor). all_let ms c.args.event) c.args.monitors.now c.loop-monitor.monitor-index _
    low)
    ∙ c.loop-monitor.invariant

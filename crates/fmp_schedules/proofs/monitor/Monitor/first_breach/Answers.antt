use Rattle.std.proofs.Common.{◌+◌, ◌<◌, ◌∙◌, List, ap, arith, drop, length, sym}
use Rattle.std.proofs.lemmas.List.{at_drop_more}
use Rattle.fmp_base.specs.declared.events.Line.{Line}
use Rattle.fmp_schedules.specs.declared.monitor.Monitor.{Monitor}
use Rattle.fmp_schedules.specs.Monitors.{is_broken}
use Rattle.fmp_schedules.proofs.MonitorSteps.{monitor_step, unbroken, unbroken_step}
use Rattle.fmp_schedules.proofs.monitor.Monitor.first_breach.Goals as goal

pub loop-place-preserved : goal.loop-place-preserved
loop-place-preserved c =
    let low : c.loop-place.place < length c.args.lines.now = omega arith in
    record {
      broken =
          ap (λ (s : Monitor). is_broken s (drop (c.loop-place.place + 1) c.args.lines.now)) c.on-monitor.ensures
          ∙ unbroken c.loop-place.monitor _ (drop (c.loop-place.place + 1) c.args.lines.now) c.broken_by.result
          c.broken_by.ensures.broken c.in_default.is
          ∙ sym
          (at_drop_more (λ (ls : List Line). is_broken c.loop-place.monitor ls) c.args.lines.now c.loop-place.place _
          low)
          ∙ c.loop-place.invariant.broken;
      first =
          unbroken_step c.args.self.now c.loop-place.monitor c.args.lines.now c.loop-place.place _ c.broken_by.result
          low c.loop-place.invariant.monitor c.broken_by.ensures.broken c.in_default.is c.loop-place.invariant.first;
      monitor =
          monitor_step c.args.self.now c.loop-place.monitor c.on-monitor.result c.args.lines.now c.loop-place.place _
          low c.on-monitor.ensures c.loop-place.invariant.monitor;
    }

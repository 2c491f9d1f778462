use Rattle.std.proofs.Common.{◌∙◌, [], List, ap, arith, subst, sym}
use Rattle.fmp_base.specs.declared.events.Line.{Line}
use Rattle.fmp_schedules.specs.declared.monitor.Monitor.{Monitor}
use Rattle.fmp_schedules.specs.Monitors.{monitor_after}
use Rattle.fmp_witness.specs.Findings.{HasMonitor}
use Rattle.fmp_witness.proofs.BreachLemmas.{monitor_all, monitor_begun, monitor_step}
use Rattle.fmp_witness.proofs.breaching.follow_monitor.Goals as goal

pub loop-e-init : goal.loop-e-init
loop-e-init c =
    subst (λ (s : Monitor). HasMonitor c.args.image.now c.args.n c.args.monitor [] c.args.kernel.now s)
    (sym (c.after-after.ensures ∙ ap (λ (ls : List Line). monitor_after c.args.monitor ls) c.lines.ensures))
    (monitor_begun c.args.image.now c.args.n c.args.monitor c.args.kernel.now c.requires)

pub loop-e-preserved : goal.loop-e-preserved
loop-e-preserved c =
    monitor_step c.args.image.now c.args.n c.args.monitor c.args.steps.now c.loop-e.e-index _ c.loop-e.kernel
    c.monitor_on.new.kernel c.loop-e.after _ c.loop-e.invariant c.loop-e-test.true c.in_ok-after.ensures

pub returns : goal.returns
returns c =
    monitor_all c.args.image.now c.args.n c.args.monitor c.args.steps.now c.loop-e.e-index c.loop-e.kernel
    c.loop-e.after
    (omega arith) c.loop-e.invariant

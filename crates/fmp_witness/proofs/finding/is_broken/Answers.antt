use Rattle.std.proofs.Common.{IsTrue, List, Option, rules, subst}
use Rattle.std.specs.Prelude.{IfSome}
use Rattle.fmp_base.specs.declared.events.Line.{Line}
use Rattle.fmp_schedules.specs.declared.monitor.Monitor.{Monitor}
use Rattle.fmp_schedules.specs.Monitors.{IsBreach}
use Rattle.fmp_witness.specs.Findings.{HasMonitor}
use Rattle.fmp_witness.proofs.BreachLemmas.{breach_after}
use Rattle.fmp_witness.proofs.finding.is_broken.Goals as goal

pub is_done-requires-clause-followed : goal.is_done-requires-clause-followed
is_done-requires-clause-followed c =
    let has = subst
    (λ (o : Option Monitor). IfSome o
    (HasMonitor c.args.image.now c.args.n c.args.monitor c.args.before.now c.follow_monitor.new.kernel))
    c.in-Some.is c.follow_monitor.ensures in
    has.followed

pub returns : goal.returns
returns c = λ broken.
    let has = subst
    (λ (o : Option Monitor). IfSome o
    (HasMonitor c.args.image.now c.args.n c.args.monitor c.args.before.now c.follow_monitor.new.kernel))
    c.in-Some.is c.follow_monitor.ensures in
    let yes : IsTrue c.is_done.result = search rules in
    breach_after c.args.image.now c.args.n c.args.monitor c.args.before.now c.args.last c.follow_monitor.new.kernel
    c.is_done.new.kernel c.in-Some.monitor c.args.breach has (c.is_done.ensures yes)
    (subst (λ (ls : List Line). IsBreach c.in-Some.monitor ls c.args.breach) c.lines.ensures
    (c.is_breach.ensures broken))

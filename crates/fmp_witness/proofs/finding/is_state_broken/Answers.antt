use Rattle.std.proofs.Common.{List, subst}
use Rattle.fmp_schedules.specs.declared.monitor.Monitor.{Monitor}
use Rattle.fmp_witness.specs.Findings.{HasBroken}
use Rattle.fmp_witness.proofs.SeenThere.{state_there}
use Rattle.fmp_witness.proofs.finding.is_state_broken.Goals as goal

pub returns : goal.returns
returns c = λ yes.
    let s = c.args.subject.now in
    state_there s.image.now s.n c.args.steps.now c.args.kernel.now c.requires
    s.question.now.monitors.items c.args.place
    (subst (λ (ms : List Monitor). HasBroken ms c.args.kernel.now.world c.args.place) c.deref.ensures.value
    (c.has_broken.ensures yes))

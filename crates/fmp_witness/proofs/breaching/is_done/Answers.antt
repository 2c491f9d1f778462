use Rattle.std.proofs.Common.{subst}
use Rattle.fmp_base.specs.declared.events.Effect.{Effect}
use Rattle.fmp_witness.specs.Followed.{HasStepped}
use Rattle.fmp_witness.proofs.StepLemmas.{stepped, stepped_done}
use Rattle.fmp_witness.proofs.breaching.is_done.Goals as goal

pub returns-in-Done : goal.returns-in-Done
returns-in-Done c = λ _.
    let i = c.args.image.now in
    let at = stepped i c.args.n c.args.before.now c.args.last c.args.kernel.now c.step.new.self c.step.result
    c.requires.followed c.step.ensures.effect c.step.ensures.state in
    stepped_done i c.args.n c.args.before.now c.args.last c.step.new.self
    (subst (λ (x : Effect). HasStepped i c.args.n c.args.before.now c.args.last c.step.new.self x) c.in-Done.is at)

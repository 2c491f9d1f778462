use Rattle.std.proofs.Common.{IsTrue, arith, rules}
use Rattle.fmp_witness.proofs.Following.{followed_all, followed_none, followed_step}
use Rattle.fmp_witness.proofs.replaying.follow.Goals as goal

pub loop-e-init : goal.loop-e-init
loop-e-init c = followed_none c.args.image.now c.args.n c.args.kernel.now c.requires

pub loop-e-preserved : goal.loop-e-preserved
loop-e-preserved c =
    let yes : IsTrue c.does.result = search rules in
    followed_step c.args.image.now c.args.n c.args.steps.now c.loop-e.e-index _ c.loop-e.kernel c.does.new.kernel
    c.loop-e.invariant c.loop-e-test.true (c.does.ensures.taken yes)

pub returns : goal.returns
returns c = λ _.
    followed_all c.args.image.now c.args.n c.args.steps.now c.loop-e.e-index c.loop-e.kernel (omega arith)
    c.loop-e.invariant

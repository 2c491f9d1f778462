use Rattle.std.proofs.Common.{◌<◌, ◌^◌, arith}
use Rattle.fmp_explore.proofs.KernelLemmas.{followed_ready, ready_at}
use Rattle.fmp_witness.proofs.OverLemmas.{over_after, same_body, same_bound, same_system}
use Rattle.fmp_explore.proofs.standing.follow_on.Goals as goal
use Rattle.fmp_witness.specs.Asked.{asked_of}

pub put_back-requires-clause-body : goal.put_back-requires-clause-body
put_back-requires-clause-body c =
    let s = c.args.subject.now in
    same_body s.image.now s.n c.args.kernel.now c.follow.new.kernel c.requires.kernel
    (over_after s.image.now s.n c.args.steps.now c.follow.new.kernel (c.follow.ensures c.if-not-follow.false))

pub put_back-requires-clause-bound : goal.put_back-requires-clause-bound
put_back-requires-clause-bound c =
    let s = c.args.subject.now in
    same_bound s.image.now s.n c.args.kernel.now c.follow.new.kernel c.requires.kernel
    (over_after s.image.now s.n c.args.steps.now c.follow.new.kernel (c.follow.ensures c.if-not-follow.false))

pub put_back-requires-clause-system : goal.put_back-requires-clause-system
put_back-requires-clause-system c =
    let s = c.args.subject.now in
    same_system s.image.now s.n c.args.kernel.now c.follow.new.kernel c.requires.kernel
    (over_after s.image.now s.n c.args.steps.now c.follow.new.kernel (c.follow.ensures c.if-not-follow.false))

pub returns-clause-ready : goal.returns-clause-ready
returns-clause-ready c = λ _.
    let asked = asked_of c.args.subject.now in
    let k = c.follow.new.kernel in
    let early : k.taken < 2 ^ 20 = omega (arith, c.taken.ensures) in
    ready_at asked k c.put_back.new.self c.put_back.ensures
    (followed_ready asked c.keeps_rules.ensures c.args.steps.now k (c.follow.ensures c.if-not-follow.false)
    early)

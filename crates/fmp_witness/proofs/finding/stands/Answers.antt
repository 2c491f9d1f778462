use Rattle.std.proofs.Common.{Bool, subst}
use Rattle.fmp_instructions.specs.Machine.{code_meaning}
use Rattle.fmp_replay.specs.Replays.{replay}
use Rattle.fmp_schedules.specs.Deadlocks.{IsDeadlock}
use Rattle.fmp_witness.proofs.SeenThere.{deadlock_there}
use Rattle.fmp_witness.proofs.finding.stands.Goals as goal

pub returns : goal.returns
returns c = λ yes.
    let s = c.args.subject.now in
    let i = s.image.now in
    subst
    (λ (b : Bool). IsDeadlock i.system (code_meaning i.code) s.n (replay i s.n c.args.steps.now).world
    s.question.now.rest.items b)
    c.may_interrupt-interrupts.ensures.may
    (deadlock_there i s.n c.args.steps.now c.args.kernel.now c.requires s.question.now.rest.items _
    (c.is_deadlock.ensures.0 yes))

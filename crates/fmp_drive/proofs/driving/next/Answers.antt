use Rattle.std.proofs.Common.{None, Some}
use Rattle.fmp_drive.specs.Driving.{AreIdle}
use Rattle.fmp_drive.proofs.DriveLemmas.{done_after, stirred_done}
use Rattle.fmp_drive.proofs.TurnLemmas.{next_in_turn, not_stirred, still_not_due}
use Rattle.fmp_drive.proofs.driving.next.Goals as goal

pub returns-in-Some-clause-taken : goal.returns-in-Some-clause-taken
returns-in-Some-clause-taken g c =
    stirred_done g.B.Body.meaning (Some c.in-Some.e) c.args.kernel.now c.stir.new.kernel c.args.processors
    c.wish-wish.result c.in-Some.ensures.stirred c.in-Some.ensures.step

pub returns-in-Some-clause-next : goal.returns-in-Some-clause-next
returns-in-Some-clause-next g c = λ none quiet.
    absurd (not_stirred g.B.Body.meaning c.args.kernel.now c.stir.new.kernel c.wish-wish.result _ c.in-Some.e
    (c.wish-wish.ensures.run none) c.in-Some.ensures.stirred)

pub returns-in-None-clause-taken : goal.returns-in-None-clause-taken
returns-in-None-clause-taken g c =
    let same =
    stirred_done g.B.Body.meaning None c.args.kernel.now c.stir.new.kernel c.args.processors c.wish-wish.result
    c.in-None.ensures.stirred tt in
    done_after g.B.Body.meaning c.run_or_tick.result c.args.kernel.now c.stir.new.kernel c.run_or_tick.new.kernel
    c.args.processors (λ k. AreIdle g.B.Body.meaning k c.args.processors) same
    c.run_or_tick.ensures.taken

pub returns-in-None-clause-next : goal.returns-in-None-clause-next
returns-in-None-clause-next g c = λ none quiet.
    let same =
    stirred_done g.B.Body.meaning None c.args.kernel.now c.stir.new.kernel c.args.processors c.wish-wish.result
    c.in-None.ensures.stirred tt in
    next_in_turn g.B.Body.meaning c.run_or_tick.result c.args.kernel.now c.stir.new.kernel c.args.plan.now
    c.wish-wish.new.self
    c.first.result c.args.processors c.args.tasks same c.wish-wish.ensures.stirred c.wish-wish.ensures.ending quiet
    (c.first.ensures.run _ (c.wish-wish.ensures.run none)) c.run_or_tick.ensures.turn

pub returns-in-None-clause-none : goal.returns-in-None-clause-none
returns-in-None-clause-none g c =
    let same =
    stirred_done g.B.Body.meaning None c.args.kernel.now c.stir.new.kernel c.args.processors c.wish-wish.result
    c.in-None.ensures.stirred tt in
    still_not_due c.run_or_tick.result c.args.kernel.now c.stir.new.kernel c.args.plan.now c.wish-wish.new.self
    c.args.tasks same c.wish-wish.ensures.stirred c.wish-wish.ensures.ending c.run_or_tick.ensures.none

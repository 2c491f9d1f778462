use Rattle.std.proofs.Common.{IsTrue, rules}
use Rattle.fmp_question.proofs.StandLemmas.{deadlock_of, none_in_deadlock}
use Rattle.fmp_question.proofs.standing.is_deadlock.Goals as goal

pub returns : goal.returns
returns g c =
    let still : IsTrue c.stands_still.result = search rules in
    let k = c.args.kernel.now in
    let rest = c.args.question.now.rest.items in
    let count = c.processor_count-processors.ensures.count in (
      λ yes. deadlock_of g.B.Body.meaning k rest c.processor_count-processors.result c.args.interrupts count
          (c.stands_still.ensures.0 still) (c.none_does.ensures.0 yes),
      λ d. c.none_does.ensures.1 (none_in_deadlock g.B.Body.meaning k rest c.processor_count-processors.result
          c.args.interrupts count d),
    )

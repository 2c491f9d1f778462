use Rattle.std.proofs.Common.{refl, sym}
use Rattle.fmp_question.proofs.StandLemmas.{none_taken, some_taken}
use Rattle.fmp_question.proofs.standing.all_stand.Goals as goal

pub returns-in-None-clause-stand : goal.returns-in-None-clause-stand
returns-in-None-clause-stand g c = (
  λ _. (none_taken g.B.Body.meaning c.args.kernel.now c.first_taken.new.kernel c.args.source c.args.end
      c.first_taken.result (sym c.in-None.is) c.first_taken.ensures).1,
  λ _. refl,
)

pub returns-in-None-clause-same : goal.returns-in-None-clause-same
returns-in-None-clause-same g c = λ _.
    (none_taken g.B.Body.meaning c.args.kernel.now c.first_taken.new.kernel c.args.source c.args.end
    c.first_taken.result (sym c.in-None.is) c.first_taken.ensures).0

pub returns-in-Some-clause-stand : goal.returns-in-Some-clause-stand
returns-in-Some-clause-stand g c = (
  λ yes. absurd (cc),
  λ none. absurd (some_taken g.B.Body.meaning c.args.kernel.now c.first_taken.new.kernel
      c.args.source c.args.end c.first_taken.result _ (sym c.in-Some.is) c.first_taken.ensures none),
)

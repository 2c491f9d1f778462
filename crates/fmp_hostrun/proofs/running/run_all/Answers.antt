use Rattle.std.proofs.Common.{rules, subst}
use Rattle.fmp_hostrun.specs.declared.turns.Load.{Load}
use Rattle.fmp_hostrun.specs.Works.{AllAdded, CameBackAs, IsAnswer}
use Rattle.fmp_hostrun.proofs.Joining.{told_load}
use Rattle.fmp_hostrun.proofs.Starting.{all_as_they_were, kept_as_they_were}
use Rattle.fmp_hostrun.proofs.running.run_all.Goals as goal

pub returns-then-len-processors-clause-seats : goal.returns-then-len-processors-clause-seats
returns-then-len-processors-clause-seats g c = kept_as_they_were _ _ _ _ _ (search rules)

pub returns-then-len-processors-clause-added : goal.returns-then-len-processors-clause-added
returns-then-len-processors-clause-added g c = all_as_they_were _ _ _ _ _ _ (search rules)

pub returns-clause-limit : goal.returns-clause-limit
returns-clause-limit g c = (
  (λ is. absurd (c.run_seats.ensures.limit is)),
  (λ more. absurd (more (search rules))),
)

pub returns-clause-answer : goal.returns-clause-answer
returns-clause-answer g c =
    let s = g.S.Site in
    subst (λ (load : Load). IsAnswer s.image s.bound s.row_id g.G.Gate.is_open load c.args.seats.items
    c.run_seats.result.0.items c.run_seats.result.1)
    (told_load s.image _ _ _ c.processors-processors.ensures) c.run_seats.ensures.answer

pub returns-clause-added : goal.returns-clause-added
returns-clause-added g c =
    let s = g.S.Site in
    subst (λ (load : Load). CameBackAs (AllAdded s.image s.bound s.row_id load 0) c.args.seats.items
    c.run_seats.result.0.items c.run_seats.result.1)
    (told_load s.image _ _ _ c.processors-processors.ensures) c.run_seats.ensures.added

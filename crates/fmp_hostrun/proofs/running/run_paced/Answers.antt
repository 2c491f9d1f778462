use Rattle.std.proofs.Common.{rules}
use Rattle.fmp_hostrun.proofs.Starting.{all_as_they_were, kept_as_they_were}
use Rattle.fmp_hostrun.proofs.running.run_paced.Goals as goal

pub returns-then-len-processors-clause-seats : goal.returns-then-len-processors-clause-seats
returns-then-len-processors-clause-seats g c = kept_as_they_were _ _ _ _ _ (search rules)

pub returns-then-len-processors-clause-added : goal.returns-then-len-processors-clause-added
returns-then-len-processors-clause-added g c = all_as_they_were _ _ _ _ _ _ (search rules)

pub returns-clause-limit : goal.returns-clause-limit
returns-clause-limit g c = (
  (λ is. absurd (c.run_seats.ensures.limit is)),
  (λ more. absurd (more (search rules))),
)

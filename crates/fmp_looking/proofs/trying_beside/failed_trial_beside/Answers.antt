use Rattle.std.proofs.Common.{rules}
use Rattle.fmp_looking.proofs.MetLemmas.{is_found}
use Rattle.fmp_looking.proofs.trying_beside.failed_trial_beside.Goals as goal

pub returns-in_ok-shortened_trial_of-in-Some-clause-found :
    goal.returns-in_ok-shortened_trial_of-in-Some-clause-found
returns-in_ok-shortened_trial_of-in-Some-clause-found g c =
    is_found c.args.trials.now c.args.seeds _ c.in-Some.found c.in_ok-shortened_trial_of-in-Some.field-0
    (rw c.in-Some.is at c.in_ok-found.ensures) c.in_ok-shortened_trial_of-in-Some.ensures (search rules)

use Rattle.fmp_looking.proofs.MetLemmas.{first_of_parts}
use Rattle.fmp_looking.proofs.trying_beside.failing_seed_beside.Goals as goal

pub returns : goal.returns
returns g c =
    rw c.first_of.ensures
    (first_of_parts c.args.trials.now c.args.seeds c.args.trials.now.jobs c.requires c.in_ok-parts.parts.items
    c.in_ok-parts.ensures)

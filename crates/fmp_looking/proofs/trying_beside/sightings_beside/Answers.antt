use Rattle.std.proofs.lemmas.Result.{IfOk-weaker}
use Rattle.fmp_looking.proofs.trying_beside.sightings_beside.Goals as goal

pub returns : goal.returns
returns g c =
    let trials = c.args.trials.now in
    IfOk-weaker c.all_seen.result _ _
    (λ s h. h trials c.args.positions.now trials.opened.image.now trials.opened.bound c.args.seeds trials.jobs
    c.requires.jobs c.requires.order
    (rw c.deref.ensures.value c.in_ok-parts.ensures)) c.all_seen.ensures

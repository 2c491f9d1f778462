use Rattle.fmp_schedules.proofs.TryLemmas.{runs-more}
use Rattle.fmp_schedules.proofs.tries.runs.Goals as goal

pub loop-p-preserved : goal.loop-p-preserved
loop-p-preserved c =
    let more = runs-more c.loop-p.p in
    cc (more, c.in_ok-push.ensures.items)

use Rattle.fmp_checked.proofs.Judgements.{restarted_step}
use Rattle.fmp_checked.proofs.following.restart_counts.Goals as goal

pub returns-clause-step : goal.returns-clause-step
returns-clause-step c =
    restarted_step c.args.hosted.now c.restart_count-2.new.self c.args.text.now c.restart_count.new.self
    c.restart_count-2.ensures.state c.restart_count.ensures

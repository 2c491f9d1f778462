use Rattle.fmp_frames.proofs.Differences.{appended, events-more}
use Rattle.fmp_frames.proofs.comparing.append_before.Goals as goal

pub loop-before-preserved : goal.loop-before-preserved
loop-before-preserved c =
    appended _ _ _ _ _ _ c.in_ok-append_event.ensures
    (events-more c.args.told.now c.args.number c.loop-before.before c.loop-before-test.true) c.loop-before.invariant

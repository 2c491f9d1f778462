use Rattle.std.proofs.Common.{arith}
use Rattle.fmp_monitors.specs.Meaning.{OfState}
use Rattle.fmp_expect.specs.Watches.{next_watch}
use Rattle.fmp_expect.proofs.Rows.{watch_row}
use Rattle.fmp_expect.proofs.checker.tell_state.Goals as goal

pub loop-watch-preserved : goal.loop-watch-preserved
loop-watch-preserved c =
    watch_row (next_watch c.args.number (OfState c.args.state.now.state)) c.args.watches.now c.loop-watch.watches
    c.loop-watch.watch-index _ c.after_state.result c.loop-watch-test.true (omega arith) c.loop-watch.invariant
    c.after_state.ensures

use Rattle.std.proofs.Common.{◌<◌, length, arith}
use Rattle.fmp_live.proofs.Dead.{past-rows}
use Rattle.fmp_live.proofs.judging.all_keep_awaits.Goals as goal

pub returns : goal.returns
returns c = λ _. λ place v dead.
    let lt : place < length c.args.rows.now.awaits.items = past-rows c.args.rows.now.awaits.items place v dead in
    c.loop-place.invariant place (omega arith) v dead

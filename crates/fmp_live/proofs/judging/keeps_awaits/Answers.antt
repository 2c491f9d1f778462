use Rattle.std.proofs.Common.{◌≡◌, [], get_or, arith}
use Rattle.fmp_live.proofs.Dead.{dead-there}
use Rattle.fmp_live.proofs.judging.keeps_awaits.Goals as goal

pub returns : goal.returns
returns c = λ _. λ v dead.
    let row : c.row_at-live-items.result.now ≡ get_or c.args.rows.now.awaits.items c.args.place [] = cc in
    let there = dead-there c.args.rows.now.awaits.items c.args.place v c.row_at-live-items.result.now row dead in
    c.loop-local.invariant v (omega (arith, there.0)) there.1

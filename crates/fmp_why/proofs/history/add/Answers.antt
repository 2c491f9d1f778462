use Rattle.std.proofs.Common.{◌<◌, ◌≤◌, arith, length}
use Rattle.fmp_why.specs.Histories.{after_deed}
use Rattle.fmp_why.proofs.HistoryLemmas.{changed-past, changed-read}
use Rattle.fmp_why.proofs.history.add.Goals as goal

pub returns-then-place-len : goal.returns-then-place-len
returns-then-place-len c =
    let here : c.args.place < length c.args.trails.now.items = omega arith in
    changed-read (after_deed c.args.way c.args.deed) _ _ c.index.result.now c.with.result here c.index.ensures
    c.with.ensures

pub returns-else-place-len : goal.returns-else-place-len
returns-else-place-len c =
    let past : length c.args.trails.now.items ≤ c.args.place = omega arith in
    changed-past (after_deed c.args.way c.args.deed) _ _ past

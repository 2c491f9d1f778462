use Rattle.std.proofs.Common.{◌<◌, length, arith}
use Rattle.fmp_fields.proofs.Pieces.{single-more}
use Rattle.fmp_fields.proofs.field_plan.single_pieces.Goals as goal

pub loop-at-preserved : goal.loop-at-preserved
loop-at-preserved c =
    let l = c.loop-at in
    let lt : l.at < length c.args.fields.now = omega arith in
    single-more c.args.fields.now l.pieces.items c.push.new.self.items l.at _ lt l.invariant
    c.in_ok-push.ensures.items

use Rattle.std.proofs.Common.{◌<◌, length, arith}
use Rattle.fmp_fields.specs.Pieces.{fields_of_piece}
use Rattle.fmp_fields.proofs.Pieces.{pieces-more}
use Rattle.fmp_fields.proofs.field_plan.fields_in.Goals as goal

pub loop-at-preserved : goal.loop-at-preserved
loop-at-preserved c =
    let l = c.loop-at in
    let lt : l.at < length c.args.pieces.now = omega arith in
    pieces-more fields_of_piece c.args.pieces.now l.at _ l.fields.items c.push_fields.new.fields.items lt l.invariant
    c.in_ok-push_fields.ensures

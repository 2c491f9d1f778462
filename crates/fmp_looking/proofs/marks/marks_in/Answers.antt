use Rattle.std.proofs.Common.{◌<◌, arith, length}
use Rattle.fmp_looking.proofs.MarkLemmas.{marks_step}
use Rattle.fmp_looking.proofs.marks.marks_in.Goals as goal

pub loop-at-preserved : goal.loop-at-preserved
loop-at-preserved c =
    let within : c.loop-at.at < length c.args.tokens.now = omega (arith, c.len-at-end.ensures, c.loop-at-test.true) in
    marks_step c.args.text.now c.loop-at.walk c.walked-walk.result c.args.tokens.now c.loop-at.at
    c.piece_at-piece.result c.position_at-position.result c.loop-at.marks.items c.marks_by.new.marks.items _ within
    c.piece_at-piece.ensures c.position_at-position.ensures c.in_ok-marks_by.ensures c.walked-walk.ensures
    c.loop-at.invariant

use Rattle.fmp_fields.specs.Pieces.{operand_of}
use Rattle.fmp_fields.proofs.Pieces.{each-more}
use Rattle.fmp_fields.proofs.piece.push_operands.Goals as goal

pub loop-i-preserved : goal.loop-i-preserved
loop-i-preserved c =
    each-more (operand_of c.args.owner) c.loop-i.i c.args.fields.now.items c.loop-i.fields.items c.push.new.self.items
    c.operand_of.result c.operand_of.ensures c.loop-i.invariant c.in_ok-push.ensures.items

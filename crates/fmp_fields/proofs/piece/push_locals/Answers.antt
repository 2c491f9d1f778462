use Rattle.fmp_fields.specs.Pieces.{local_of}
use Rattle.fmp_fields.proofs.Pieces.{each-more}
use Rattle.fmp_fields.proofs.piece.push_locals.Goals as goal

pub loop-l-preserved : goal.loop-l-preserved
loop-l-preserved c =
    each-more (local_of c.args.owner) c.loop-l.l c.args.fields.now.items c.loop-l.fields.items c.push.new.self.items
    c.local_of.result c.local_of.ensures c.loop-l.invariant c.in_ok-push.ensures.items

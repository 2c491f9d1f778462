use Rattle.std.proofs.Common.{ap}
use Rattle.fmp_lex.specs.Cutting.{Skip, Whole, Fault}
use Rattle.fmp_lex.specs.Packing.{end_after, kind_in}
use Rattle.fmp_lex.proofs.Unique.{piece_unique}
use Rattle.fmp_lex.proofs.cutting.piece_end.Goals as goal

pub returns-in-Skip-clause-end : goal.returns-in-Skip-clause-end
returns-in-Skip-clause-end c = λ p is.
    ap (end_after c.args.start) (piece_unique c.args.text.now c.args.start
    (Skip c.in-Skip.end) p c.in-Skip.ensures.piece is)

pub returns-in-Whole-clause-end : goal.returns-in-Whole-clause-end
returns-in-Whole-clause-end c = λ p is.
    ap (end_after c.args.start)
    (piece_unique c.args.text.now c.args.start (Whole (kind_in c.args.text.now c.in-Whole.field-0) c.in-Whole.end) p
    c.in-Whole.ensures.piece is)

pub returns-in-Fault-clause-end : goal.returns-in-Fault-clause-end
returns-in-Fault-clause-end c = λ p is.
    ap (end_after c.args.start) (piece_unique c.args.text.now c.args.start
    (Fault c.in-Fault.field-0) p c.in-Fault.ensures.piece is)

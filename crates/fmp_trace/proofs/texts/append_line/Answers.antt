use Rattle.std.proofs.Common.{rules}
use Rattle.fmp_trace.proofs.LineBytes.{take-cut_off}
use Rattle.fmp_trace.proofs.texts.append_line.Goals as goal

pub returns-clause-ok : goal.returns-clause-ok
returns-clause-ok c =
    rw (c.truncate.ensures.items, c.in_ok-extend_from_slice.ensures.items)
    (take-cut_off c.args.end 96 _ c.args.out.now.items c.args.line.now (search rules) (search rules))

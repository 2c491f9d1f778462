use Rattle.fmp_trace.proofs.Appending.{on_err_through}
use Rattle.fmp_trace.proofs.lines.append_lines.Goals as goal

pub returns-clause-err : goal.returns-clause-err
returns-clause-err c = on_err_through c.append_line.result _ c.put_lines.ensures.kept c.append_line.ensures.err

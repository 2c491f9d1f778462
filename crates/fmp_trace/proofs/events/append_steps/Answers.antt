use Rattle.fmp_trace.proofs.Appending.{begins_through, on_err_from}
use Rattle.fmp_trace.proofs.events.append_steps.Goals as goal

pub returns-in_err-append_line-clause-err : goal.returns-in_err-append_line-clause-err
returns-in_err-append_line-clause-err c =
    on_err_from _ (begins_through c.loop-event.invariant.kept c.in_err-append_line.ensures.err)

use Rattle.fmp.proofs.Shows.{ends_failed}
use Rattle.fmp.proofs.running.read_and_show.Goals as goal

pub returns-in-Err : goal.returns-in-Err
returns-in-Err g c =
    ends_failed _ _ _ c.args.cmd.now c.requires.fileless c.in-Err.failure _ _ c.in-Err.ensures.failure
    c.end.ensures.line c.end.ensures.status

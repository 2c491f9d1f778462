use Rattle.fmp_kernel.proofs.calls.management.management_call.Goals as goal

pub returns-in-GetTid-clause-outcome : goal.returns-in-GetTid-clause-outcome
returns-in-GetTid-clause-outcome c = rw (c.in-GetTid.is, c.requires.lines.empty)
    (c.get_tid.ensures c.args.tables.now.state)

use Rattle.std.proofs.Common.{sym}
use Rattle.fmp_cfgparse.proofs.reading.read_cfg.Goals as goal

pub returns-in-Ok-clause-read : goal.returns-in-Ok-clause-read
returns-in-Ok-clause-read c =
    let r = c.in-Ok.ensures.reads in
    let read = r.configuration in
    (read.tokens, read.tree, read.spelled, read.making, read.makes, sym r.tables)

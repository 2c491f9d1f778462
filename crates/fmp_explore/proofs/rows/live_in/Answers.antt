use Rattle.std.proofs.Common.{List, subst}
use Rattle.fmp_instructions.specs.Instructions.{BodyTables}
use Rattle.fmp_live.specs.LiveLocals.{AreLiveTables, live_tables}
use Rattle.fmp_explore.proofs.rows.live_in.Goals as goal

pub returns : goal.returns
returns c =
    subst (λ (bodies : List BodyTables). AreLiveTables c.args.outs bodies (live_tables c.live_locals.result))
    c.code.ensures c.live_locals.ensures

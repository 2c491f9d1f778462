use Rattle.std.proofs.Common.{rules}
use Rattle.fmp_base.specs.Systems.{tables_of}
use Rattle.fmp_why.proofs.HistoryLemmas.{none-told}
use Rattle.fmp_why.proofs.history.History.new.Goals as goal

pub returns : goal.returns
returns c =
    none-told (tables_of c.args.sys.now) _
    (search rules) (search rules) (search rules) (search rules) (search rules) (search rules)

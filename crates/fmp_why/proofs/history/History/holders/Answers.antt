use Rattle.fmp_base.specs.Systems.{tables_of}
use Rattle.fmp_why.specs.HistoryTables.{tables}
use Rattle.fmp_why.proofs.HistoryLemmas.{holders-are}
use Rattle.fmp_why.proofs.history.History.holders.Goals as goal

pub returns-clause-told : goal.returns-clause-told
returns-clause-told c = λ told is.
    let same = holders-are (tables_of c.args.sys.now) told (tables c.args.self.now) is in
    rw (← same) (rw (c.deref.ensures.value, c.deref-2.ensures.value) at c.holders_of.ensures)

use Rattle.std.proofs.Common.{◌≡◌, ◌++◌, drop}
use Rattle.fmp_why.specs.HistoryTables.{holders_in}
use Rattle.fmp_why.proofs.history.holders_of.Given as goal

abbrev pub invariant-loop-config : goal.invariant-loop-config
invariant-loop-config l =
    l.holders.items ++ holders_in (drop l.config-index l.semaphores) l.rest ≡ holders_in l.semaphores l.trails

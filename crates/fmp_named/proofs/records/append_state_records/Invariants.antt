use Rattle.std.proofs.Common.{◌≡◌, ◌++◌, drop}
use Rattle.fmp_base.specs.Systems.{tables_of}
use Rattle.fmp_named.specs.Records.{state_records}
use Rattle.fmp_named.proofs.records.append_state_records.Given as goal

abbrev pub invariant-loop-task : goal.invariant-loop-task
invariant-loop-task l =
    l.out.items ++ state_records (tables_of l.sys) l.task (drop l.task l.states) l.rest
    ≡ l.initial.out.items ++ state_records (tables_of l.sys) 0 l.states l.blocks

use Rattle.std.proofs.Common.{◌≡◌, ◌++◌, drop}
use Rattle.fmp_base.specs.Systems.{tables_of}
use Rattle.fmp_named.specs.States.{named_states}
use Rattle.fmp_named.proofs.states.append_states.Given as goal

abbrev pub invariant-loop-task : goal.invariant-loop-task
invariant-loop-task l =
    l.out.items ++ named_states (tables_of l.sys) l.task (drop l.task l.states) l.rest
    ≡ l.initial.out.items ++ named_states (tables_of l.sys) 0 l.states l.blocks

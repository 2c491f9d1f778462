use Rattle.std.proofs.Common.{◌≡◌, ◌++◌, drop}
use Rattle.fmp_searching.specs.Said.{more_started}
use Rattle.fmp_searching.specs.Sources.{source_tables}
use Rattle.fmp_searching.proofs.left.say_more_started.Given as goal

abbrev pub invariant-loop-task : goal.invariant-loop-task
invariant-loop-task l =
    l.out.items ++ more_started (source_tables l.sources) (drop l.task-index l.started)
    ≡ l.initial.out.items ++ more_started (source_tables l.sources) l.started

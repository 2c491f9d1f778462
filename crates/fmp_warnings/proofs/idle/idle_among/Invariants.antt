use Rattle.std.specs.List.{All}
use Rattle.fmp_warnings.specs.Verdicts.{IsIdleStep}
use Rattle.fmp_warnings.proofs.idle.idle_among.Given as goal

abbrev pub invariant-loop-event : goal.invariant-loop-event
invariant-loop-event l = All (IsIdleStep l.steps) l.found.items

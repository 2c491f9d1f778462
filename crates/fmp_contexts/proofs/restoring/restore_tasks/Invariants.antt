use Rattle.fmp_contexts.specs.Contexts.{Fitting, HasPlaces}
use Rattle.fmp_contexts.proofs.restoring.restore_tasks.Given as goal

abbrev pub invariant-loop-t : goal.invariant-loop-t
invariant-loop-t g l =
    record {
      places : HasPlaces l.tables.system l.contexts;
      fitting : Fitting g.B.Body.has_entry g.B.Body.is_context l.body l.tables.system l.contexts;
    }

use Rattle.fmp_contexts.specs.Contexts.{Fitting, HasPlaces}
use Rattle.fmp_contexts.proofs.restoring.restore_handlers.Given as goal

abbrev pub invariant-loop-p : goal.invariant-loop-p
invariant-loop-p g l =
    record {
      places : HasPlaces l.tables.system l.contexts;
      fitting : Fitting g.B.Body.has_entry g.B.Body.is_context l.body l.tables.system l.contexts;
    }

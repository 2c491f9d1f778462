use Rattle.std.proofs.Common.{◌≡◌, drop}
use Rattle.fmp_base.specs.Meanings.{contexts_after_all}
use Rattle.fmp_contexts.specs.Contexts.{Fitting, HasPlaces}
use Rattle.fmp_contexts.proofs.deliveries.carry_out.Given as goal

abbrev pub invariant-loop-line : goal.invariant-loop-line
invariant-loop-line g l =
    let rest = contexts_after_all l.tables.system (g.B.Body.meaning l.body) in
    record {
      contexts : rest l.contexts (drop l.line-index l.lines.items) ≡ rest l.fn.contexts l.lines.items;
      places : HasPlaces l.tables.system l.contexts;
      fitting : Fitting g.B.Body.has_entry g.B.Body.is_context l.body l.tables.system l.contexts;
    }

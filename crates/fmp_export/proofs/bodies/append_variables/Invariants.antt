use Rattle.std.proofs.Common.{◌≡◌, ◌++◌, drop}
use Rattle.fmp_export.specs.Bodies.{c_variables, variables_end}
use Rattle.fmp_export.specs.Sources.{source_view}
use Rattle.fmp_export.proofs.bodies.append_variables.Given as goal

abbrev pub invariant-loop-variable : goal.invariant-loop-variable
invariant-loop-variable l =
    (l.out.items
    ++ c_variables (source_view l.source) l.written.items l.place (drop l.variable-index l.variables)
    ≡ l.initial.out.items ++ c_variables (source_view l.source) l.before l.at l.variables)
    × (variables_end (source_view l.source) l.place (drop l.variable-index l.variables)
    ≡ variables_end (source_view l.source) l.at l.variables)

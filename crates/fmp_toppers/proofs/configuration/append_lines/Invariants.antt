use Rattle.std.proofs.Common.{◌≡◌, ◌++◌, drop, map}
use Rattle.fmp_tasklang.specs.Views.{body_view}
use Rattle.fmp_toppers.specs.Lines.{lines}
use Rattle.fmp_toppers.proofs.configuration.append_lines.Given as goal

abbrev pub invariant-loop-place : goal.invariant-loop-place
invariant-loop-place g l =
    l.out.items ++ lines (g.T.ConfigurationRow.line_of l.target (map body_view l.bodies)) (drop l.place l.rows)
    ≡ l.initial.out.items ++ lines (g.T.ConfigurationRow.line_of l.target (map body_view l.bodies)) l.rows

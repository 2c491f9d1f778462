use Rattle.std.proofs.Common.{◌≡◌, ◌++◌, drop, map}
use Rattle.fmp_tasklang.specs.Views.{expression_view}
use Rattle.fmp_export.specs.Expressions.{c_expressions}
use Rattle.fmp_export.specs.Pieces.{piece_view}
use Rattle.fmp_export.specs.Sources.{source_view}
use Rattle.fmp_export.proofs.expressions.expressions.Given as goal

abbrev pub invariant-loop-e : goal.invariant-loop-e
invariant-loop-e l =
    map piece_view l.pieces.items
    ++ c_expressions (source_view l.source) l.next (map expression_view (drop l.e-index l.list))
    ≡ c_expressions (source_view l.source) l.at (map expression_view l.list)

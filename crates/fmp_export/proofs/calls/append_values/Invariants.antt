use Rattle.std.proofs.Common.{◌≡◌, ◌++◌, drop, map}
use Rattle.fmp_export.specs.Pieces.{piece_view}
use Rattle.fmp_export.specs.Statements.{c_values}
use Rattle.fmp_export.proofs.calls.append_values.Given as goal

abbrev pub invariant-loop-place : goal.invariant-loop-place
invariant-loop-place l =
    l.out.items ++ c_values l.margin l.place (map piece_view (drop l.place l.pieces))
    ≡ l.initial.out.items ++ c_values l.margin 0 (map piece_view l.pieces)

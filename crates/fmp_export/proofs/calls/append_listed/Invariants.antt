use Rattle.std.proofs.Common.{◌≡◌, ◌++◌, drop, map}
use Rattle.fmp_export.specs.Pieces.{piece_view}
use Rattle.fmp_export.specs.Statements.{c_listed}
use Rattle.fmp_export.proofs.calls.append_listed.Given as goal

abbrev pub invariant-loop-place : goal.invariant-loop-place
invariant-loop-place l =
    l.out.items ++ c_listed l.ordered l.place (map piece_view (drop l.place l.pieces))
    ≡ l.initial.out.items ++ c_listed l.ordered l.from (map piece_view (drop l.from l.pieces))

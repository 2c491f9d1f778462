use Rattle.std.proofs.Common.{◌≡◌, drop, map}
use Rattle.fmp_export.specs.declared.pieces.Risk.TheVariants as risk
use Rattle.fmp_export.specs.Pieces.{piece_view}
use Rattle.fmp_export.specs.Statements.{any_matters}
use Rattle.fmp_export.proofs.calls.any_matters.Given as goal

abbrev pub invariant-loop-piece : goal.invariant-loop-piece
invariant-loop-piece l =
    any_matters l.risk (map piece_view (drop l.piece-index l.pieces)) ≡ any_matters risk.Safe (map piece_view l.pieces)

-- The arguments before the out place of a call, and those after it.
use Rattle.std.proofs.Common.{◌≡◌, ◌∙◌, ap, sym, ℕ, List, length, map, min, take, drop}
use Rattle.std.proofs.lemmas.List.{take-map, take_min, drop-map}
use Rattle.fmp_export.specs.declared.pieces.Piece.{Piece}
use Rattle.fmp_export.specs.Pieces.{piece_view}

pub taken : (ps : List Piece) (n : ℕ) → map piece_view (take (min n (length ps)) ps) ≡ take n (map piece_view ps)
taken ps n = ap (map piece_view) (take_min n ps) ∙ sym (take-map piece_view n ps)

pub dropped : (ps : List Piece) (n : ℕ) → map piece_view (drop n ps) ≡ drop n (map piece_view ps)
dropped ps n = sym (drop-map piece_view n ps)

-- The marks of tokens from a place on.
use Rattle.std.proofs.Common.{◌≡◌, ℕ, suc, zero, ◌+◌, ◌<◌, List, [], ◌∷◌, ◌++◌, length, drop, refl, ap, ◌∙◌, arith}
use Rattle.std.proofs.Common.{append_assoc, sym}
use Rattle.fmp_lex.specs.declared.token.Token.{Token}
use Rattle.fmp_frames.specs.declared.call_positions.CallPosition.{CallPosition}
use Rattle.fmp_looking.specs.declared.marks.Mark.{Mark}
use Rattle.fmp_looking.specs.declared.walking.Piece.{Piece}
use Rattle.fmp_looking.specs.declared.walking.Walk.{Walk}
use Rattle.fmp_looking.specs.Marks.{marks_by, marks_from, piece_at, position_at, walked}

next : (i : ℕ) → suc (i + 1) ≡ suc i + 1
next i = omega arith

marks_at : (text : List ℕ) (w : Walk) (ts : List Token) (i : ℕ) → i < length ts
    → marks_from text w (drop i ts)
    ≡ marks_by w (piece_at ts i) (position_at text ts i)
    ++ marks_from text (walked w (piece_at ts i) (position_at text ts i)) (drop (i + 1) ts)
marks_at text w [] i h = absurd (omega arith)
marks_at text w (t ∷ ts) zero h = refl
marks_at text w (t ∷ ts) (suc i) h =
    marks_at text w ts i (omega arith)
    ∙ ap
    (λ k. marks_by w (piece_at ts i) (position_at text ts i)
    ++ marks_from text (walked w (piece_at ts i) (position_at text ts i)) (drop k (t ∷ ts)))
    (next i)

-- after one more token, which is this piece at this place
pub marks_step : (text : List ℕ) (w w' : Walk) (ts : List Token) (i : ℕ) (piece : Piece) (position : CallPosition)
    (before after total : List Mark)
    → i < length ts → piece ≡ piece_at ts i → position ≡ position_at text ts i
    → after ≡ before ++ marks_by w piece position → w' ≡ walked w piece position
    → before ++ marks_from text w (drop i ts) ≡ total
    → after ++ marks_from text w' (drop (i + 1) ts) ≡ total
marks_step text w w' ts i piece position before after total h is there more moved so_far =
    let rest : List Token = drop (i + 1) ts in
    ap (λ (v : Walk). after ++ marks_from text v rest) moved
    ∙ ap (λ (q : List Mark). q ++ marks_from text (walked w piece position) rest) more
    ∙ append_assoc before (marks_by w piece position) (marks_from text (walked w piece position) rest)
    ∙ ap (λ (p : Piece). before ++ (marks_by w p position ++ marks_from text (walked w p position) rest)) is
    ∙ ap
    (λ (p : CallPosition).
    before ++ (marks_by w (piece_at ts i) p ++ marks_from text (walked w (piece_at ts i) p) rest)) there
    ∙ ap (λ (q : List Mark). before ++ q) (sym (marks_at text w ts i h))
    ∙ so_far

-- A list grows at its end, piece by piece.
use Rattle.std.proofs.Common.{ℕ, ◌≡◌, List, ◌++◌, append_assoc, ◌∙◌, ap, sym, Result, Ok, Err, OnErr}
use Rattle.fmp_trace.specs.Fronts.{Begins}

-- what begins with a list that begins with another begins with that one
pub begins_through : {front middle whole : List ℕ} → Begins front middle → Begins middle whole → Begins front whole
begins_through {front = front} a b =
    record {
      rest = a.rest ++ b.rest;
      whole_is = b.whole_is ∙ ap (λ xs. xs
          ++ b.rest) a.whole_is ∙ append_assoc front a.rest b.rest;
    }

-- a fact holds on an error, whatever the result is
pub on_err_from : {T E P : Type 0} (r : Result T E) → P → OnErr r P
on_err_from (Ok x) p = tt
on_err_from (Err e) p = p

-- an error that leaves a list with a front leaves it with a front of that front
pub on_err_through : {T E : Type 0} (r : Result T E) {front middle : List ℕ} (whole : List ℕ) → Begins front middle
    → OnErr r (Begins middle whole) → OnErr r (Begins front whole)
on_err_through (Ok x) whole a b = tt
on_err_through (Err e) whole a b = begins_through a b

-- what is left of a piece, behind what went to the list
pub left_behind : (before now left piece rest : List ℕ) → now ++ left ≡ before ++ piece → now ++ (left ++ rest)
    ≡ before ++ (piece ++ rest)
left_behind before now left piece rest h = sym (append_assoc now left rest) ∙ ap (λ xs. xs ++ rest) h
    ∙ append_assoc before piece rest

-- one more line behind a piece
pub one_more : (before piece now line rest whole : List ℕ) → now ≡ piece ++ line → before ++ (piece ++ (line ++ rest))
    ≡ whole
    → before ++ (now ++ rest) ≡ whole
one_more before piece now line rest whole e h =
    ap (λ xs. before ++ (xs ++ rest)) e ∙ ap (λ xs. before ++ xs) (append_assoc piece line rest) ∙ h

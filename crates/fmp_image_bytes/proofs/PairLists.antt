-- Lists side by side.
use Rattle.std.proofs.Common.{◌≡◌, ℕ, zero, suc, ◌+◌, ◌<◌, List, [], ◌∷◌, ◌++◌, length, get_or, drop, map, refl, sym}
use Rattle.std.proofs.Common.{ap, ◌∙◌, append_assoc, arith}
use Rattle.std.proofs.Math.Seq.{drop-cons}
use Rattle.std.proofs.Common.{add-one}
use Rattle.fmp_image_bytes.specs.Pairs.{AllPairs, pairs_spelled}

pub same_length : {A B : Type 0} (P : A → B → Type 0) (xs : List A) (ys : List B) → AllPairs P xs ys → length xs
    ≡ length ys
same_length P [] [] h = refl
same_length P [] (y ∷ ys) h = absurd h
same_length P (x ∷ xs) [] h = absurd h
same_length P (x ∷ xs) (y ∷ ys) h = ap suc (same_length P xs ys h.1)

-- P holds of each pair of a list and of what f makes of another
pub holds_at : {A B C : Type 0} (f : C → B) (P : A → B → Type 0) (xs : List A) (zs : List C)
    → AllPairs P xs (map f zs) → (k : ℕ) (dx : A) (dz : C) → k < length zs
    → P (get_or xs k dx) (f (get_or zs k dz))
holds_at f P [] [] h k dx dz lt = absurd (omega arith)
holds_at f P [] (z ∷ zs) h k dx dz lt = absurd h
holds_at f P (x ∷ xs) [] h k dx dz lt = absurd h
holds_at f P (x ∷ xs) (z ∷ zs) h zero dx dz lt = h.0
holds_at f P (x ∷ xs) (z ∷ zs) h (suc k) dx dz lt = holds_at f P xs zs h.1 k dx dz (omega arith)

-- one more pair is put
pub put_one : {A B C : Type 0} (f : C → B) (spell : A → B → List ℕ) (xs : List A) (zs : List C) (k : ℕ) (dx : A)
    (dz : C) (out total : List ℕ) → k < length xs → k < length zs
    → out ++ pairs_spelled spell (drop k xs) (map f (drop k zs)) ≡ total
    → (out ++ spell (get_or xs k dx) (f (get_or zs k dz))) ++ pairs_spelled spell (drop (k + 1) xs)
    (map f (drop (k + 1) zs)) ≡ total
put_one f spell xs zs k dx dz out total lx lz so_far =
    let x : drop k xs ≡ get_or xs k dx ∷ drop (k + 1) xs = rw add-one (drop-cons xs k dx lx) in
    let z : drop k zs ≡ get_or zs k dz ∷ drop (k + 1) zs = rw add-one (drop-cons zs k dz lz) in
    let here : out ++ pairs_spelled spell (drop k xs) (map f (drop k zs))
    ≡ out ++ (spell (get_or xs k dx) (f (get_or zs k dz)) ++ pairs_spelled spell (drop (k + 1) xs)
    (map f (drop (k + 1) zs))) =
    rw (x, z) refl in
    append_assoc out (spell (get_or xs k dx) (f (get_or zs k dz))) (pairs_spelled spell (drop (k + 1) xs)
    (map f (drop (k + 1) zs))) ∙ sym here ∙ so_far

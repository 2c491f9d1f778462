-- The table of first places of locals grows by one place after another.
use Rattle.std.proofs.Common.{◌≡◌, ℕ, zero, suc, add-one, ◌+◌, ◌<◌, ◌≤◌, List, [], ◌∷◌, ◌++◌, length, take, get_or, map}
use Rattle.std.proofs.Common.{refl, sym, ap, ◌∙◌, arith, subst, ⊎_elim}
use Rattle.std.specs.Prelude.{slice_index}
use Rattle.std.proofs.lemmas.Bool.{cases_lt}
use Rattle.std.proofs.lemmas.List.{get_or_push, length-append}
use Rattle.std.proofs.Math.ListN.{get_or-append}
use Rattle.fmp_tasklang.specs.declared.trees.Declaration.{Declaration}
use Rattle.fmp_tasklang.specs.Layout.{Local, local_of, places_of, total_places, first_place}
use Rattle.fmp_scopes.specs.Scopes.{ArePlaces, locals_with}

-- the first place behind a local
taken-step :
    (ls : List Local) (i : ℕ) (l : Local) → i < length ls → l ≡ get_or ls i l →
    total_places (take (i + 1) ls) ≡ total_places (take i ls) + l.places
taken-step [] i l h e = absurd (omega (arith, h))
taken-step (x ∷ ls) zero l h e = ap (λ (y : Local). y.places + 0) (sym e) ∙ omega arith
taken-step (x ∷ ls) (suc i) l h e =
    let rest = taken-step ls i l (omega (arith, h)) e in
    let here : total_places (take (suc i + 1) (x ∷ ls)) ≡ x.places + total_places (take (suc i) ls) =
    ap (λ k. total_places (take k (x ∷ ls))) (add-one (suc i)) in
    let there : total_places (take (i + 1) ls) ≡ total_places (take (suc i) ls) = ap (λ k. total_places (take k ls))
    (add-one i) in
    omega (arith, rest, here, there)

local-there :
    (vars : List Declaration) (i : ℕ) (v : Declaration) → v ≡ get_or vars i v →
    local_of v ≡ get_or (map local_of vars) i (local_of v)
local-there [] i v e = refl
local-there (d ∷ ds) zero v e = ap local_of e
local-there (d ∷ ds) (suc i) v e = local-there ds i v e

local-count : (vars : List Declaration) → length (map local_of vars) ≡ length vars
local-count [] = refl
local-count (d ∷ ds) = ap suc (local-count ds)

pub first-step :
    (vars : List Declaration) (i : ℕ) (v : Declaration) → i < length vars → v ≡ get_or vars i v →
    first_place (locals_with vars) (i + 1 + 1) ≡ first_place (locals_with vars) (i + 1) + places_of v.length
first-step vars i v h e =
    let ls = map local_of vars in
    let firsts = first_place (locals_with vars) in
    let count = local-count vars in
    let step : total_places (take (i + 1) ls) ≡ total_places (take i ls) + places_of v.length =
    taken-step ls i (local_of v) (omega (arith, h, count)) (local-there vars i v e) in
    let after : firsts (i + 1 + 1) ≡ 1 + total_places (take (i + 1) ls) = ap firsts (add-one (i + 1)) in
    let before : firsts (i + 1) ≡ 1 + total_places (take i ls) = ap firsts (add-one i) in
    omega (arith, step, after, before)

taken-most : (ls : List Local) (n : ℕ) → total_places (take n ls) ≤ total_places ls
taken-most [] zero = omega arith
taken-most [] (suc n) = omega arith
taken-most (l ∷ ls) zero = omega arith
taken-most (l ∷ ls) (suc n) = let rest = taken-most ls n in omega (arith, rest)

-- no first place is behind all of them
pub first-most : (vars : List Declaration) (n : ℕ) → first_place (locals_with vars) n ≤ total_places (locals_with vars)
first-most vars n = taken-most (locals_with vars) n

-- one more first place
pub places-more :
    (vars : List Declaration) (places : List ℕ) (next : ℕ) → ArePlaces places vars →
    next ≡ first_place (locals_with vars) (length places) → (more : List ℕ) → more ≡ places ++ next ∷ [] →
    ArePlaces more vars
places-more vars places next are is more e = λ i h.
    let size = length-append places (next ∷ []) in
    let longer = ap (λ (xs : List ℕ). length xs) e in
    subst (λ (xs : List ℕ). slice_index xs i ≡ first_place (locals_with vars) i) (sym e)
    (⊎_elim
    (λ lt. get_or-append places (next ∷ []) 0 i lt ∙ are i lt)
    (λ le.
    let same : length places ≡ i = omega (arith, le, h, size, longer) in
    get_or_push places next 0 i same ∙ is ∙ ap (first_place (locals_with vars)) same)
    (cases_lt i (length places)))

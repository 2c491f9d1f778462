-- How many places locals have together.
use Rattle.std.proofs.Common.{◌≡◌, ℕ, zero, suc, ◌+◌, ◌<◌, ◌≤◌, List, [], ◌∷◌, None, length, take, drop, get_or, map}
use Rattle.std.proofs.Common.{refl, ap, ◌∙◌, arith}
use Rattle.std.specs.Prelude.{slice_get}
use Rattle.fmp_tasklang.specs.declared.trees.Declaration.{Declaration}
use Rattle.fmp_tasklang.specs.Layout.{local_of, places_of, total_places, places_or_none, first_place, places_at}
use Rattle.fmp_scopes.specs.Scopes.{locals_with}
use Rattle.fmp_scopes.proofs.Loops.{drop-all, map-step}

-- the places of the variables from one on
abbrev pub left : List Declaration → ℕ → ℕ
left vars i = total_places (map local_of (drop i vars))

pub left_step :
    (vars : List Declaration) (i : ℕ) (v : Declaration) → i < length vars → v ≡ get_or vars i v →
    left vars i ≡ places_of v.length + left vars (i + 1)
left_step vars i v h e = ap total_places (map-step local_of vars i v h e)

pub left_end : (vars : List Declaration) (i : ℕ) → length vars ≤ i → left vars i ≡ 0
left_end vars i h = ap (λ (ds : List Declaration). total_places (map local_of ds)) (drop-all vars i h)

pub ruleset sums = (left_step, left_end)

-- the first variables have no more places than all
pub taken_most : (vars : List Declaration) (i : ℕ) → total_places (map local_of (take i vars)) ≤ total_places
    (map local_of vars)
taken_most [] zero = omega arith
taken_most [] (suc i) = omega arith
taken_most (d ∷ ds) zero = omega arith
taken_most (d ∷ ds) (suc i) = let rest = taken_most ds i in omega (arith, rest)

-- a variable has no more places than all have
pub one_most :
    (vars : List Declaration) (i : ℕ) (none : Declaration) → i < length vars →
    places_of (get_or vars i none).length ≤ total_places (map local_of vars)
one_most [] i none h = absurd (omega (arith, h))
one_most (d ∷ ds) zero none h = omega arith
one_most (d ∷ ds) (suc i) none h = let rest = one_most ds i none (omega (arith, h)) in omega (arith, rest)

-- the places before a variable
taken_first :
    (vars : List Declaration) (i : ℕ) → total_places (take i (map local_of vars))
    ≡ total_places (map local_of (take i vars))
taken_first [] zero = refl
taken_first [] (suc i) = refl
taken_first (d ∷ ds) zero = refl
taken_first (d ∷ ds) (suc i) = ap (λ n. places_of d.length + n) (taken_first ds i)

pub first_there :
    (vars : List Declaration) (number before : ℕ) → before + 1 ≡ number →
    first_place (locals_with vars) number ≡ 1 + total_places (map local_of (take before vars))
first_there vars zero before e = absurd (omega (arith, e))
first_there vars (suc n) before e =
    let same : n ≡ before = omega (arith, e) in
    ap (λ k. 1 + total_places (take k (map local_of vars))) same ∙ ap (λ n. 1 + n) (taken_first vars before)

-- the places of the local at a place of the list
places_there :
    (vars : List Declaration) (i : ℕ) (none : Declaration) → i < length vars →
    places_or_none (slice_get (map local_of vars) i) ≡ places_of (get_or vars i none).length
places_there [] i none h = absurd (omega (arith, h))
places_there (d ∷ ds) zero none h = refl
places_there (d ∷ ds) (suc i) none h = places_there ds i none (omega (arith, h))

pub places_of_local :
    (vars : List Declaration) (number at : ℕ) (none : Declaration) → at + 1 ≡ number → at < length vars →
    places_at (locals_with vars) number ≡ places_of (get_or vars at none).length
places_of_local vars zero at none n h = absurd (omega (arith, n))
places_of_local vars (suc k) at none n h =
    let same : k ≡ at = omega (arith, n) in
    ap (λ i. places_or_none (slice_get (map local_of vars) i)) same ∙ places_there vars at none h

-- what stands where a list of declarations has none
abbrev pub no_declaration : Declaration
no_declaration = record { name = record { name = record { length = 0; bytes = [] }; at = 0 }; length = None }

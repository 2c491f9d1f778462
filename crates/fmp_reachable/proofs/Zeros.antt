-- How many numbers of a list are not 0.
use Rattle.std.proofs.Common.{◌≡◌, ℕ, ◌+◌, ◌-◌, ◌<◌, ◌≤◌, zero, suc, List, length, take, drop, ap, ◌∙◌, refl}
use Rattle.std.proofs.Common.{arith, ℤ, pos, negsuc}
use Rattle.std.specs.Prelude.{get_or}
use Rattle.std.specs.List.{sum_by}
use Rattle.std.proofs.lemmas.List.{get_or-drop, length-drop}
use Rattle.std.proofs.lemmas.List.Sums.{get_or-le-sum_by, sum_by-take-drop, sum_by_more}

-- 1 for a number that is not 0
pub mark : ℤ → ℕ
mark (pos zero) = 0
mark (pos (suc n)) = 1
mark (negsuc n) = 1

-- how many are not 0
abbrev pub marks : List ℤ → ℕ
marks xs = sum_by mark xs

no-mark : (x : ℤ) → mark x ≡ 0 → x ≡ pos 0
unfolding mark
no-mark (pos zero) h = refl
no-mark (pos (suc n)) h = absurd (omega (arith, h))
no-mark (negsuc n) h = absurd (omega (arith, h))

one-mark : (x : ℤ) → (x ≡ pos 0 → ⊥) → mark x ≡ 1
unfolding mark
one-mark (pos zero) h = absurd (h refl)
one-mark (pos (suc n)) h = refl
one-mark (negsuc n) h = refl

-- one more that is 0, and one more that is not
pub marks-zero : (xs : List ℤ) (k : ℕ) (d : ℤ) → k < length xs → get_or xs k d ≡ pos 0
    → marks (take (k + 1) xs) ≡ marks (take k xs)
unfolding mark
marks-zero xs k d lt is = omega (arith, sum_by_more mark xs k d lt, ap mark is)

pub marks-other : (xs : List ℤ) (k : ℕ) (d : ℤ) → k < length xs → (get_or xs k d ≡ pos 0 → ⊥)
    → marks (take (k + 1) xs) ≡ marks (take k xs) + 1
marks-other xs k d lt is = omega (arith, sum_by_more mark xs k d lt, one-mark (get_or xs k d) is)

-- where all that are not 0 stand before a place, the numbers from there on are 0
pub clear-from : (xs : List ℤ) (first k : ℕ) → marks xs ≡ marks (take first xs) → first ≤ k → k < length xs
    → get_or xs k (pos 0) ≡ pos 0
clear-from xs first k all low lt =
    let place : first + (k - first) ≡ k = omega arith in
    let here : get_or (drop first xs) (k - first) (pos 0) ≡ get_or xs k (pos 0) =
    get_or-drop first xs (k - first) (pos 0) ∙ ap (λ n. get_or xs n (pos 0)) place in
    let inside : k - first < length (drop first xs) = omega (arith, length-drop first xs) in
    let most = get_or-le-sum_by mark (drop first xs) (k - first) (pos 0) inside in
    let parts = sum_by-take-drop mark xs first in
    no-mark (get_or xs k (pos 0)) (omega (arith, most, parts, all, ap mark here))

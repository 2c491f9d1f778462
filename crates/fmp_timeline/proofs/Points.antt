-- Where a list is cut in two by a test, the first part has as many items as pass.
use Rattle.std.proofs.Common.{◌≡◌, ℕ, zero, suc, ◌<◌, ◌≤◌, Bool, true, false, List, [], ◌∷◌, length, get_or}
use Rattle.std.proofs.Common.{refl, sym, arith}
use Rattle.std.proofs.Common.{◌+◌, ◌∙◌, cond}
use Rattle.std.proofs.lemmas.List.Sums.{sum_by-cons}
use Rattle.std.specs.Prelude.{count_by}

none_pass : {X : Type 0} (p : X → Bool) (xs : List X)
    → ((k : ℕ) (d : X) → 0 ≤ k → k < length xs → p (get_or xs k d) ≡ false)
    → count_by p xs ≡ 0
none_pass p [] fails = refl
none_pass p (x ∷ xs) fails =
    let here : p x ≡ false = fails 0 x (omega arith) (omega arith) in
    let rest = none_pass p xs (λ k d from below. fails (suc k) d (omega arith) (omega arith)) in
    grind (arith, here, rest)

pub point_count : {X : Type 0} (p : X → Bool) (xs : List X) (i : ℕ) → i ≤ length xs
    → ((k : ℕ) (d : X) → 0 ≤ k → k < i → p (get_or xs k d) ≡ true)
    → ((k : ℕ) (d : X) → i ≤ k → k < length xs → p (get_or xs k d) ≡ false)
    → i ≡ count_by p xs
point_count p xs zero within pass fails = sym (none_pass p xs fails)
point_count p [] (suc i) within pass fails = absurd (omega arith)
point_count p (x ∷ xs) (suc i) within pass fails =
    let here : p x ≡ true = pass 0 x (omega arith) (omega arith) in
    let rest =
    point_count p xs i (omega arith) (λ k d from below. pass (suc k) d (omega arith) (omega arith))
    (λ k d from below. fails (suc k) d (omega arith) (omega arith)) in
    let step : count_by p (x ∷ xs) ≡ 1 + count_by p xs = sum_by-cons (λ y. cond (p y) 1 0) x xs ∙ rw here refl in
    let more : suc i ≡ 1 + count_by p xs = omega (arith, rest) in
    more ∙ sym step

-- The steps between two texts, by the clauses of the call that counts them.
use Rattle.std.proofs.Common.{◌≡◌, ◌≢◌, ℕ, List, [], ◌∷◌, length, nat_eq, arith, refl}
use Rattle.std.specs.Prelude.{IfOk, Ok, Result}
use Rattle.strsim.specs.Edits.{damerau}
use Rattle.fmp_diagnosis.specs.Nearest.{steps_between}

pub steps_are_counted : {E : Type 0} (xs ys : List ℕ) (r : Result ℕ E) → (xs ≡ [] → r ≡ Ok (length ys)) →
    (ys ≡ [] → r ≡ Ok (length xs)) → (xs ≢ [] → ys ≢ [] → IfOk r (λ d. d ≡ damerau nat_eq xs ys)) →
    IfOk r (λ d. d ≡ steps_between xs ys)
steps_are_counted [] ys r first second value = rw (first refl) refl
steps_are_counted (x ∷ xs) [] r first second value = rw (second refl) refl
steps_are_counted (x ∷ xs) (y ∷ ys) r first second value = value (grind arith) (grind arith)

-- The services whose calls are made most often take one argument at most.
use Rattle.std.proofs.Common.{◌≡◌, ◌∙◌, ap, sym, subst, refl, ℕ, ℤ, pos, [], ◌∷◌, Option, IfSome, Result, Bool}
use Rattle.std.proofs.Common.{true, false, ◌||◌, nat_eq}
use Rattle.std.proofs.lemmas.Bool.{eqb-true}
use Rattle.fmp_base.specs.declared.calls.Call.{Call}
use Rattle.fmp_foreign.specs.declared.requests.Refusal.{Refusal}
use Rattle.fmp_foreign.specs.Hosting.{called_by, made_by}
use Rattle.fmp_c.specs.declared.machine.Machine.{Machine}
use Rattle.fmp_c.specs.declared.records.FmpOutcome.{FmpOutcome}
use Rattle.fmp_c.specs.Exports.{IsTaken}
use Rattle.fmp_c.specs.Services.{is_frequent}

-- the call of this service with this argument, whatever comes after it
abbrev pub Alone : ℕ → ℤ → (b c d : ℤ) → Type 0
Alone n a b c d = called_by n (a ∷ b ∷ c ∷ d ∷ []) ≡ called_by n (a ∷ pos 0 ∷ pos 0 ∷ pos 0 ∷ [])

either : {P : Type 0} (x y : Bool) → (x ≡ true → P) → (y ≡ true → P) → (x || y) ≡ true → P
either true y f g h = f refl
either false y f g h = g h

module _ (n : ℕ) (a b c d : ℤ) where
  at : (k : ℕ) → Alone k a b c d → nat_eq n k ≡ true → Alone n a b c d
  at k h e = subst (λ (v : ℕ). Alone v a b c d) (sym (eqb-true n k e)) h

  alone : is_frequent n ≡ true → Alone n a b c d
  alone =
      either (nat_eq n 12 || nat_eq n 14 || nat_eq n 20 || nat_eq n 21) (nat_eq n 22)
      (either (nat_eq n 12 || nat_eq n 14 || nat_eq n 20) (nat_eq n 21)
      (either (nat_eq n 12 || nat_eq n 14) (nat_eq n 20)
      (either (nat_eq n 12) (nat_eq n 14) (at 12 refl) (at 14 refl)) (at 20 refl)) (at 21 refl)) (at 22 refl)

-- so they are taken as they are with this argument alone
pub frequent_taken : (n p : ℕ) (a x b c d : ℤ) (before new : Option Machine) (out : FmpOutcome) (number : ℕ)
    → is_frequent n ≡ true → x ≡ a
    → IfSome before (λ m. IsTaken m (made_by p (called_by n (x ∷ pos 0 ∷ pos 0 ∷ pos 0 ∷ []))) p new out number)
    → IfSome before (λ m. IsTaken m (made_by p (called_by n (a ∷ b ∷ c ∷ d ∷ []))) p new out number)
frequent_taken n p a x b c d before new out number h same =
    subst
    (λ (g : Result Call Refusal). IfSome before (λ m. IsTaken m (made_by p g) p new out number))
    (ap (λ (v : ℤ). called_by n (v ∷ pos 0 ∷ pos 0 ∷ pos 0 ∷ [])) same ∙ sym (alone n a b c d h))

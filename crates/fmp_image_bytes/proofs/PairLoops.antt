-- Reading pairs one after the other, as a loop does.
use Rattle.std.proofs.Common.{◌≡◌, ℕ, suc, ◌-◌, ◌+◌, ◌≤◌, ◌<◌, List, [], ◌∷◌, ◌++◌, Result, Ok, Err, refl, sym, ◌∙◌}
use Rattle.std.proofs.Common.{append_assoc, arith}
use Rattle.std.proofs.lemmas.List.{append-nil}
use Rattle.fmp_image_bytes.specs.declared.fault.ImageFault.{ImageFault}
use Rattle.fmp_image_bytes.specs.declared.fault.LoadFault.{LoadFault}
use Rattle.fmp_image_bytes.specs.declared.fault.LoadFault.TheVariants as load_fault
use Rattle.fmp_image_bytes.specs.Fields.{◌>>=◌, Fails}
use Rattle.fmp_image_bytes.specs.Pairs.{pairs_at}

-- what was read before, and what is still read
abbrev pub with_fronts : {A B : Type 0} → List A → List B → Result ((List A × List B) × List ℕ) ImageFault
    → Result ((List A × List B) × List ℕ) ImageFault
with_fronts xs ys reading = reading >>= λ x. Ok ((xs ++ x.0.0, ys ++ x.0.1), x.1)

module _ {A B : Type 0} where
  regroup : (xs : List A) (ys : List B) (a : A) (b : B) (reading : Result ((List A × List B) × List ℕ) ImageFault)
      → with_fronts xs ys (reading >>= λ x. Ok ((a ∷ x.0.0, b ∷ x.0.1), x.1))
      ≡ with_fronts (xs ++ a ∷ []) (ys ++ b ∷ []) reading
  regroup xs ys a b (Ok x) = rw (append_assoc xs (a ∷ []) x.0.0, append_assoc ys (b ∷ []) x.0.1) refl
  regroup xs ys a b (Err f) = refl

  module _ (pair_at : List ℕ → Result ((A × B) × List ℕ) ImageFault) (xs : List A) (ys : List B) (count i : ℕ)
      (bytes : List ℕ) (total : Result ((List A × List B) × List ℕ) ImageFault) where
    pub goes_on : (a : A) (b : B) (after : List ℕ) → i < count → pair_at bytes ≡ Ok ((a, b), after)
        → with_fronts xs ys (pairs_at pair_at (count - i) bytes) ≡ total
        → with_fronts (xs ++ a ∷ []) (ys ++ b ∷ []) (pairs_at pair_at (count - (i + 1)) after) ≡ total
    unfolding pairs_at
    goes_on a b after lt h so_far =
        let k : count - i ≡ suc (count - (i + 1)) = omega arith in
        let one : with_fronts xs ys (pairs_at pair_at (count - i) bytes)
        ≡ with_fronts (xs ++ a ∷ []) (ys ++ b ∷ []) (pairs_at pair_at (count - (i + 1)) after) =
        rw (k, h) (regroup xs ys a b (pairs_at pair_at (count - (i + 1)) after)) in
        sym one ∙ so_far

    pub ends : (e : LoadFault) → i < count → Fails e (pair_at bytes)
        → with_fronts xs ys (pairs_at pair_at (count - i) bytes) ≡ total → Fails e total
    unfolding pairs_at
    ends load_fault.Memory lt h so_far = tt
    ends (load_fault.Image f) lt h so_far =
        let k : count - i ≡ suc (count - (i + 1)) = omega arith in
        let one : with_fronts xs ys (pairs_at pair_at (count - i) bytes) ≡ Err f = rw (k, h) refl in
        sym so_far ∙ one

    pub is_done : count ≤ i → with_fronts xs ys (pairs_at pair_at (count - i) bytes) ≡ total → total
        ≡ Ok ((xs, ys), bytes)
    unfolding pairs_at
    is_done le so_far =
        let k : count - i ≡ 0 = omega arith in
        let one : with_fronts xs ys (pairs_at pair_at (count - i) bytes)
        ≡ Ok ((xs, ys), bytes) = rw (k, append-nil xs, append-nil ys) refl in
        sym so_far ∙ one

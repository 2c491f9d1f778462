-- Pairs that are read are those that are spelled.
use Rattle.std.proofs.Common.{◌≡◌, ℕ, zero, suc, List, [], ◌∷◌, ◌++◌, length, Ok, refl, sym, ap, subst, ◌∙◌}
use Rattle.std.proofs.Common.{append_assoc}
use Rattle.fmp_image_bytes.specs.Fields.{Field, ◌>>=◌}
use Rattle.fmp_image_bytes.specs.Pairs.{pairs_at, pairs_spelled, AllPairs}
use Rattle.fmp_image_bytes.proofs.FieldLaws.{IsBytes, Exact, bind_ok, ok_is, rest_is_bytes}

-- what n pairs took
pub record PairsTaken {A B : Type 0} (pair : Field (A × B)) (n : ℕ) (bytes : List ℕ) (xs : List A) (ys : List B)
    (rest : List ℕ) : Type 0 where
  pub count : length ys ≡ n
  pub each : AllPairs (λ a b. pair.fits (a, b)) xs ys
  pub parts : bytes ≡ pairs_spelled (λ a b. pair.spell (a, b)) xs ys ++ rest

module _ {A B : Type 0} (pair : Field (A × B)) (exact : Exact pair) where
  pub pairs_take : (n : ℕ) (bytes : List ℕ) (x : (List A × List B) × List ℕ) → IsBytes bytes
      → pairs_at pair.read n bytes ≡ Ok x → PairsTaken pair n bytes x.0.0 x.0.1 x.1
  unfolding pairs_at
  pairs_take zero bytes x h e =
      subst (λ (y : (List A × List B) × List ℕ). PairsTaken pair 0 bytes y.0.0 y.0.1 y.1)
      (ok_is (([], []), bytes) x e) (record { count = refl; each = tt; parts = refl })
  pairs_take (suc n) bytes x h e =
      let a = bind_ok (pair.read bytes) (λ first. pairs_at pair.read n first.1 >>= λ others. Ok
      ((first.0.0 ∷ others.0.0, first.0.1 ∷ others.0.1), others.1)) x e in
      let b = bind_ok (pairs_at pair.read n a.0.1) (λ others. Ok (
        (a.0.0.0 ∷ others.0.0, a.0.0.1 ∷ others.0.1),
        others.1,
      )) x a.2 in
      let one = exact.takes bytes a.0.0 a.0.1 h a.1 in
      let more = pairs_take n a.0.1 b.0 (rest_is_bytes bytes (pair.spell a.0.0) a.0.1 one.1 h) b.1 in
      let made : (List A × List B) × List ℕ = ((a.0.0.0 ∷ b.0.0.0, a.0.0.1 ∷ b.0.0.1), b.0.1) in
      let whole : bytes ≡ (pair.spell a.0.0 ++ pairs_spelled (λ a b. pair.spell (a, b)) b.0.0.0 b.0.0.1) ++ b.0.1 =
      one.1 ∙ ap (λ r. pair.spell a.0.0 ++ r) more.parts ∙ sym
      (append_assoc (pair.spell a.0.0) (pairs_spelled (λ a b. pair.spell (a, b)) b.0.0.0 b.0.0.1) b.0.1) in
      subst (λ (y : (List A × List B) × List ℕ). PairsTaken pair (suc n) bytes y.0.0 y.0.1 y.1) (ok_is made x b.2)
      (record { count = ap suc more.count; each = (one.0, more.each); parts = whole })

  pub pairs_again : (xs : List A) (ys : List B) (rest : List ℕ) → AllPairs (λ a b. pair.fits (a, b)) xs ys
      → pairs_at pair.read (length ys) (pairs_spelled (λ a b. pair.spell (a, b)) xs ys ++ rest) ≡ Ok ((xs, ys), rest)
  unfolding pairs_at
  pairs_again [] [] rest h = refl
  pairs_again [] (y ∷ ys) rest h = absurd h
  pairs_again (x ∷ xs) [] rest h = absurd h
  pairs_again (x ∷ xs) (y ∷ ys) rest h =
      let others = pairs_spelled (λ a b. pair.spell (a, b)) xs ys in
      let regrouped : (pair.spell (x, y) ++ others) ++ rest ≡ pair.spell (x, y)
      ++ (others ++ rest) = append_assoc (pair.spell (x, y)) others rest in
      ap (pairs_at pair.read (suc (length ys))) regrouped ∙ rw (
        exact.again (x, y)
            (others ++ rest) h.0,
        pairs_again xs ys rest h.1,
      ) refl

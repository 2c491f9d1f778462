-- The test that code keeps to its depth table says what `KeepsTable` says.
use Rattle.std.proofs.Common.{◌≡◌, ℕ, zero, suc, ◌+◌, Bool, true, ◌&&◌, nat_eq, nat_le, List, [], ◌∷◌, length, Option}
use Rattle.std.proofs.Common.{Some, None, refl, sym, ap, subst, arith}
use Rattle.std.specs.Prelude.{slice_get}
use Rattle.std.proofs.lemmas.Bool.{leb-true, le-leb, eqb-true, eq-eqb}
use Rattle.fmp_instructions.specs.declared.instructions.Instruction.{Instruction}
use Rattle.fmp_instructions.specs.Instructions.{BodyTables}
use Rattle.fmp_instructions.specs.Verify.{depth_is, fits, KeepsTable}
use Rattle.fmp_image_bytes.specs.Bodies.{keeps_table}
use Rattle.fmp_image_bytes.specs.Pairs.{pairs_pass}
use Rattle.fmp_image_bytes.proofs.Names.{and_true}

pub both_true : (a b : Bool) → a ≡ true → b ≡ true → (a && b) ≡ true
both_true a b p q = rw (p, q) refl

module _ {A B : Type 0} (test : ℕ → A → B → Bool) where
  pub each_passes : (place : ℕ) (xs : List A) (ys : List B) → pairs_pass test place xs ys ≡ true
      → (k : ℕ) (x : A) (y : B) → slice_get xs k ≡ Some x → slice_get ys k ≡ Some y → test (place + k) x y ≡ true
  each_passes place [] ys h k x y p q = absurd cc
  each_passes place (a ∷ xs) [] h k x y p q = absurd cc
  each_passes place (a ∷ xs) (b ∷ ys) h zero x y p q =
      let x-is : a ≡ x = cc in
      let y-is : b ≡ y = cc in
      let same : place + 0 ≡ place = omega arith in
      rw (same, ← x-is, ← y-is) (and_true _ _ h).0
  each_passes place (a ∷ xs) (b ∷ ys) h (suc k) x y p q =
      let same : place + suc k ≡ (place + 1) + k = omega arith in
      rw same (each_passes (place + 1) xs ys (and_true _ _ h).1 k x y p q)

  pub all_pass : (place : ℕ) (xs : List A) (ys : List B) → length ys ≡ length xs
      → ((k : ℕ) (x : A) (y : B) → slice_get xs k ≡ Some x → slice_get ys k ≡ Some y → test (place + k) x y ≡ true)
      → pairs_pass test place xs ys ≡ true
  all_pass place [] ys len each = refl
  all_pass place (a ∷ xs) [] len each = absurd (omega arith)
  all_pass place (a ∷ xs) (b ∷ ys) len each =
      let same : place + 0 ≡ place = omega arith in
      let first : test place a b ≡ true = rw same at (each 0 a b refl refl) in
      both_true _ _ first (all_pass (place + 1) xs ys (omega arith) (λ k x y p q.
      let shift : (place + 1) + k ≡ place + suc k = omega arith in
      rw shift (each (suc k) x y p q)))

pub from_zero : (k : ℕ) → 0 + k ≡ k
from_zero k = omega arith

first_is : (o : Option ℕ) → depth_is o 0 ≡ true → o ≡ Some 0
first_is None h = absurd cc
first_is (Some e) h = ap Some (eqb-true _ _ (and_true _ _ h).0)

pub table_kept : (b : BodyTables) → keeps_table b ≡ true → KeepsTable b
unfolding keeps_table
table_kept b h =
    let one = and_true _ _ h in
    let two = and_true _ _ one.0 in
    let three = and_true _ _ two.0 in
    let passes : (k : ℕ) (i : Instruction) (d : ℕ)
    → slice_get b.instructions k ≡ Some i
    → slice_get b.depths k ≡ Some d
    → fits b.locals b.depths (0 + k) d i ≡ true =
    each_passes (λ place i d. fits b.locals b.depths place d i) 0 b.instructions b.depths one.1 in
    record {
      first = first_is (slice_get b.depths 0) three.0;
      size = leb-true _ _ three.1;
      long = eqb-true _ _ two.1;
      each = λ k i d p q. subst (λ m. fits b.locals b.depths m d i ≡ true) (from_zero k) (passes k i d p q);
    }

pub table_keeps : (b : BodyTables) → KeepsTable b → keeps_table b ≡ true
unfolding keeps_table
table_keeps b h =
    let first : depth_is (slice_get b.depths 0) 0 ≡ true = rw h.first refl in
    let size : nat_le (length b.instructions) 65535 ≡ true = le-leb _ _ h.size in
    let long : nat_eq (length b.depths) (length b.instructions) ≡ true = eq-eqb _ _ h.long in
    let each =
    all_pass (λ place i d. fits b.locals b.depths place d i) 0 b.instructions b.depths h.long
    (λ k i d p q. subst (λ m. fits b.locals b.depths m d i ≡ true) (sym (from_zero k)) (h.each k i d p q)) in
    both_true _ _ (both_true _ _ (both_true _ _ first size) long) each

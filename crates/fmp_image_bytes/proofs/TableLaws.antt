-- A table that is read is the table that is spelled, and keys that are new stay so in parts.
use Rattle.std.proofs.Common.{◌≡◌, ℕ, zero, suc, Bool, true, false, not, ◌&&◌, List, [], ◌∷◌, ◌++◌, length, map, Ok}
use Rattle.std.proofs.Common.{refl, sym, ap, subst, ◌∙◌, append_assoc}
use Rattle.std.specs.List.{flat_map, AllByRecursion}
use Rattle.std.proofs.lemmas.List.{append-nil}
use Rattle.std.proofs.lemmas.List.Concat.{flat_map-cons}
use Rattle.fmp_image_bytes.specs.declared.fault.ImageFault.TheVariants as fault
use Rattle.fmp_image_bytes.specs.declared.keys.Key.{Key}
use Rattle.fmp_image_bytes.specs.Fields.{Field, ◌>>=◌, byte_at}
use Rattle.fmp_image_bytes.specs.Keys.{is_taken, are_new}
use Rattle.fmp_image_bytes.specs.Tables.{new_row, rows_at, table}
use Rattle.fmp_image_bytes.proofs.FieldLaws.{IsBytes, Exact, bind_ok, ok_is, byte_exact, tested_exact, rest_is_bytes}
use Rattle.fmp_image_bytes.proofs.Names.{and_true}
use Rattle.fmp_image_bytes.proofs.Verification.{both_true}

-- what n rows took
record Taken {A : Type 0} (row : Field A) (key_of : A → Key) (n : ℕ) (taken : List Key) (bytes : List ℕ)
    (rows : List A) (rest : List ℕ) : Type 0 where
  count : length rows ≡ n
  each : AllByRecursion row.fits rows
  once : are_new taken (map key_of rows) ≡ true
  parts : bytes ≡ flat_map row.spell rows ++ rest

module _ {A : Type 0} (row : Field A) (key_of : A → Key) (exact : Exact row) where
  new_exact : (taken : List Key) → Exact (new_row row key_of taken)
  new_exact taken = tested_exact (λ a. not (is_taken (key_of a) taken)) fault.Table row exact

  rows_take : (n : ℕ) (taken : List Key) (bytes : List ℕ) (x : List A × List ℕ) → IsBytes bytes
      → rows_at row key_of n taken bytes ≡ Ok x → Taken row key_of n taken bytes x.0 x.1
  unfolding rows_at are_new
  rows_take zero taken bytes x h e =
      subst (λ (y : List A × List ℕ). Taken row key_of 0 taken bytes y.0 y.1) (ok_is ([], bytes) x e)
      (record { count = refl; each = tt; once = refl; parts = refl })
  rows_take (suc n) taken bytes x h e =
      let a = bind_ok ((new_row row key_of taken).read bytes) (λ first. rows_at row key_of n
      (taken ++ key_of first.0 ∷ []) first.1 >>= λ others. Ok (first.0 ∷ others.0, others.1)) x e in
      let b = bind_ok (rows_at row key_of n (taken ++ key_of a.0.0 ∷ []) a.0.1)
      (λ others. Ok (a.0.0 ∷ others.0, others.1)) x a.2 in
      let one = (new_exact taken).takes bytes a.0.0 a.0.1 h a.1 in
      let more = rows_take n (taken ++ key_of a.0.0 ∷ []) a.0.1 b.0 (rest_is_bytes bytes
      (row.spell a.0.0) a.0.1 one.1 h) b.1 in
      let made : List A × List ℕ = (a.0.0 ∷ b.0.0, b.0.1) in
      let whole : bytes ≡ flat_map row.spell (a.0.0 ∷ b.0.0) ++ b.0.1 =
      one.1 ∙ ap (λ r. row.spell a.0.0 ++ r) more.parts ∙ sym
      (append_assoc (row.spell a.0.0) (flat_map row.spell b.0.0) b.0.1) ∙ ap (λ f. f ++ b.0.1)
      (sym (flat_map-cons row.spell a.0.0 b.0.0)) in
      subst (λ (y : List A × List ℕ). Taken row key_of (suc n) taken bytes y.0 y.1) (ok_is made x b.2)
      (record {
        count = ap suc more.count;
        each = (one.0.0, more.each);
        once = both_true _ _ one.0.1 more.once;
        parts = whole;
      })

  rows_again : (taken : List Key) (rows : List A) (rest : List ℕ) → AllByRecursion row.fits rows
      → are_new taken (map key_of rows) ≡ true
      → rows_at row key_of (length rows) taken (flat_map row.spell rows ++ rest) ≡ Ok (rows, rest)
  unfolding rows_at are_new
  rows_again taken [] rest fits once = refl
  rows_again taken (a ∷ rows) rest fits once =
      let new = and_true _ _ once in
      let regrouped : flat_map row.spell (a ∷ rows) ++ rest ≡ row.spell a ++ (flat_map row.spell rows ++ rest) =
      ap (λ f. f ++ rest) (flat_map-cons row.spell a rows) ∙ append_assoc (row.spell a) (flat_map row.spell rows)
      rest in
      let one = (new_exact taken).again a (flat_map row.spell rows ++ rest) (fits.0, new.0) in
      let more = rows_again (taken ++ key_of a ∷ []) rows rest fits.1 new.1 in
      ap (rows_at row key_of (suc (length rows)) taken) regrouped ∙ rw (one, more) refl

  pub table_exact : (taken : List Key) → Exact (table row key_of taken)
  table_exact taken = record {
    takes = λ bytes rows rest h e.
        let b = bind_ok (byte_at bytes) (λ n. rows_at row key_of n.0 taken n.1) (rows, rest) e in
        let one = byte_exact.takes bytes b.0.0 b.0.1 h b.1 in
        let more = rows_take b.0.0 taken b.0.1 (rows, rest) (rest_is_bytes bytes (b.0.0 ∷ []) b.0.1 one.1 h) b.2 in (
          record { count = rw more.count one.0; each = more.each; once = more.once },
          rw more.count
              (one.1 ∙ ap (λ r. b.0.0 ∷ r) more.parts),
        );
    again = λ rows rest fits. rows_again taken rows rest fits.each fits.once;
  }

-- ---- keys

and_assoc : (a b c : Bool) → (a && (b && c)) ≡ ((a && b) && c)
and_assoc true b c = refl
and_assoc false b c = refl

pub new_append : (taken xs ys : List Key) → are_new taken (xs ++ ys) ≡ (are_new taken xs && are_new (taken ++ xs) ys)
unfolding are_new
new_append taken [] ys = ap (λ t. are_new t ys) (sym (append-nil taken))
new_append taken (x ∷ xs) ys =
    let along : (taken ++ x ∷ []) ++ xs ≡ taken ++ x ∷ xs = append_assoc taken (x ∷ []) xs in
    ap (λ b. not (is_taken x taken) && b) (new_append (taken ++ x ∷ []) xs ys
    ∙ ap (λ t. are_new (taken ++ x ∷ []) xs && are_new t ys) along)
    ∙ and_assoc (not (is_taken x taken)) (are_new (taken ++ x ∷ []) xs) (are_new (taken ++ x ∷ xs) ys)

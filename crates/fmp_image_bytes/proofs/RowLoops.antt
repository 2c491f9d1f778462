-- Reading rows one after the other, as a loop does.
use Rattle.std.proofs.Common.{◌≡◌, ℕ, suc, ◌-◌, ◌+◌, ◌≤◌, ◌<◌, true, false, List, [], ◌∷◌, ◌++◌, Result, Ok, Err, refl}
use Rattle.std.proofs.Common.{sym, ap, ◌∙◌, append_assoc, arith}
use Rattle.std.proofs.lemmas.List.{append-nil}
use Rattle.fmp_image_bytes.specs.declared.fault.ImageFault.{ImageFault}
use Rattle.fmp_image_bytes.specs.declared.fault.ImageFault.TheVariants as fault
use Rattle.fmp_image_bytes.specs.declared.fault.LoadFault.{LoadFault}
use Rattle.fmp_image_bytes.specs.declared.fault.LoadFault.TheVariants as load_fault
use Rattle.fmp_image_bytes.specs.declared.keys.Key.{Key}
use Rattle.fmp_image_bytes.specs.Fields.{◌>>=◌, Fails, Field}
use Rattle.fmp_image_bytes.specs.Keys.{is_taken}
use Rattle.fmp_image_bytes.specs.Tables.{rows_at}

-- what was read before, and what is still read
abbrev pub with_front : {A : Type 0} → List A → Result (List A × List ℕ) ImageFault
    → Result (List A × List ℕ) ImageFault
with_front front reading = reading >>= λ x. Ok (front ++ x.0, x.1)

regroup : {A : Type 0} (front : List A) (a : A) (reading : Result (List A × List ℕ) ImageFault)
    → with_front front (reading >>= λ x. Ok (a ∷ x.0, x.1)) ≡ with_front (front ++ a ∷ []) reading
regroup front a (Ok x) = ap (λ ns. Ok (ns, x.1)) (simp append_assoc)
regroup front a (Err f) = refl

module _ {A : Type 0} (row : Field A) (key_of : A → Key) (front : List A) (count i : ℕ) (taken : List Key)
    (bytes : List ℕ) (total : Result (List A × List ℕ) ImageFault) where
  pub goes_on : (a : A) (after : List ℕ) → i < count → row.read bytes ≡ Ok (a, after) → is_taken (key_of a) taken
      ≡ false
      → with_front front (rows_at row key_of (count - i) taken bytes) ≡ total
      → with_front (front ++ a ∷ []) (rows_at row key_of (count - (i + 1)) (taken ++ key_of a ∷ []) after) ≡ total
  unfolding rows_at
  goes_on a after lt h free so_far =
      let k : count - i ≡ suc (count - (i + 1)) = omega arith in
      let one : with_front front (rows_at row key_of (count - i) taken bytes)
      ≡ with_front (front ++ a ∷ []) (rows_at row key_of (count - (i + 1)) (taken ++ key_of a ∷ []) after) =
      rw (k, h, free) (regroup front a (rows_at row key_of (count - (i + 1)) (taken ++ key_of a ∷ []) after)) in
      sym one ∙ so_far

  pub ends : (e : LoadFault) → i < count → Fails e (row.read bytes)
      → with_front front (rows_at row key_of (count - i) taken bytes) ≡ total → Fails e total
  unfolding rows_at
  ends load_fault.Memory lt h so_far = tt
  ends (load_fault.Image f) lt h so_far =
      let k : count - i ≡ suc (count - (i + 1)) = omega arith in
      let one : with_front front (rows_at row key_of (count - i) taken bytes) ≡ Err f = rw (k, h) refl in
      sym so_far ∙ one

  pub stands : (a : A) (after : List ℕ) → i < count → row.read bytes ≡ Ok (a, after) → is_taken (key_of a) taken ≡ true
      → with_front front (rows_at row key_of (count - i) taken bytes) ≡ total → total ≡ Err fault.Table
  unfolding rows_at
  stands a after lt h there so_far =
      let k : count - i ≡ suc (count - (i + 1)) = omega arith in
      let one : with_front front (rows_at row key_of (count - i) taken bytes)
      ≡ Err fault.Table = rw (k, h, there) refl in
      sym so_far ∙ one

  pub is_done : count ≤ i → with_front front (rows_at row key_of (count - i) taken bytes) ≡ total → total
      ≡ Ok (front, bytes)
  unfolding rows_at
  is_done le so_far =
      let k : count - i ≡ 0 = omega arith in
      let one : with_front front (rows_at row key_of (count - i) taken bytes)
      ≡ Ok (front, bytes) = rw k (ap (λ ns. Ok (ns, bytes)) (append-nil front)) in
      sym so_far ∙ one

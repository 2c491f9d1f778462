-- Tables: a count of rows, and the rows, each with a key that does not stand yet.
use Rattle.std.specs.Prelude.{◌≡◌, ◌<◌, ℕ, zero, suc, List, [], ◌∷◌, ◌++◌, length, map, Result, Ok, true, not}
use Rattle.std.specs.List.{flat_map, AllByRecursion}
use Rattle.fmp_image_bytes.specs.declared.fault.ImageFault.{ImageFault}
use Rattle.fmp_image_bytes.specs.declared.fault.ImageFault.TheVariants as fault
use Rattle.fmp_image_bytes.specs.declared.keys.Key.{Key}
use Rattle.fmp_image_bytes.specs.Fields.{Field, ◌>>=◌, byte_at, tested}
use Rattle.fmp_image_bytes.specs.Keys.{is_taken, are_new}

-- a row whose key does not stand yet
abbrev pub new_row : {A : Type 0} → Field A → (A → Key) → List Key → Field A
new_row row key_of taken = tested (λ a. not (is_taken (key_of a) taken)) fault.Table row

-- n rows from the front of bytes
unfoldable pub rows_at : {A : Type 0} → Field A → (A → Key) → ℕ → List Key → List ℕ
    → Result (List A × List ℕ) ImageFault
rows_at row key_of zero taken bytes = Ok ([], bytes)
rows_at row key_of (suc n) taken bytes = do
  first ← (new_row row key_of taken).read bytes
  others ← rows_at row key_of n (taken ++ key_of first.0 ∷ []) first.1
  Ok (first.0 ∷ others.0, others.1)

-- the rows fit, there are at most 255 of them, and their keys are new
pub record AreRows {A : Type 0} (row : Field A) (key_of : A → Key) (taken : List Key) (rows : List A) : Type 0 where
  pub count : length rows < 256
  pub each : AllByRecursion row.fits rows
  pub once : are_new taken (map key_of rows) ≡ true

-- a table, where these keys stand already
abbrev pub table : {A : Type 0} → Field A → (A → Key) → List Key → Field (List A)
table row key_of taken = record {
  fits = AreRows row key_of taken;
  spell = λ rows. length rows ∷ flat_map row.spell rows;
  read = λ bytes. byte_at bytes >>= λ n. rows_at row key_of n.0 taken n.1;
}

-- What is read and written of what is known, and which calls have failed.
use Rattle.std.specs.Prelude.{ℕ, suc, zero, ◌≡◌, ◌+◌, ◌≤◌, ◌<◌, Bool, true, false, List, ◌++◌, Option, None, Some}
use Rattle.std.specs.Prelude.{Result, Ok, Err, length, take, ⊤}
use Rattle.std.specs.Io.KnownBytes.{Appends, Consumes, IsAtEnd}
use Rattle.fmp_files.specs.declared.reading.ReadFault.{ReadFault}
use Rattle.fmp_files.specs.declared.reading.ReadFault.TheVariants.{Device, Memory}

-- a write failed or took no byte
abbrev pub took_none : {E : Type 0} → Result ℕ E → Bool
took_none (Ok zero) = true
took_none (Ok (suc n)) = false
took_none (Err e) = true

-- a reading ended since a read failed
abbrev pub is_device : {A : Type 0} → Result A ReadFault → Bool
is_device (Ok a) = false
is_device (Err Device) = true
is_device (Err Memory) = false

-- the bytes that are read under a limit: one past it tells that there are more
abbrev pub front : Option ℕ → List ℕ → List ℕ
front None bytes = bytes
front (Some limit) bytes = take (limit + 1) bytes

-- this many bytes go at most one past the limit
abbrev pub IsWithin : Option ℕ → ℕ → Type 0
IsWithin None count = ⊤
IsWithin (Some limit) count = count ≤ limit + 1

-- this many bytes go past the limit
abbrev pub IsPast : Option ℕ → ℕ → Type 0
IsPast None count = ⊥
IsPast (Some limit) count = limit < count

-- what is known to be left has lost a beginning, which goes no further than one past the limit
abbrev pub LosesWithin : Option ℕ → (old new : Option (List ℕ)) → Type 0
LosesWithin limit old new = (bytes : List ℕ) × Consumes old new bytes × IsWithin limit (length bytes)

-- one read, of at most this many bytes, has taken bytes from what is left to what was read; none only at the end
pub record ReadsMore (most : ℕ) (left left_after : Option (List ℕ)) (bytes bytes_after : List ℕ) (count : ℕ)
    : Type 0 where
  pub more : List ℕ
  pub appended : bytes_after ≡ bytes ++ more
  pub counted : length more ≡ count
  pub few : count ≤ most
  pub taken : Consumes left left_after more
  pub end : count ≡ 0 → IsAtEnd left_after

-- what is known to be left has lost a beginning of at most `most` bytes
abbrev pub LosesAtMost : ℕ → (old new : Option (List ℕ)) → Type 0
LosesAtMost most old new = (bytes : List ℕ) × Consumes old new bytes × (length bytes ≤ most)

-- what is known to be written has gained a beginning of these bytes
abbrev pub GainsBeginning : (old new : Option (List ℕ)) → List ℕ → Type 0
GainsBeginning old new bytes = (count : ℕ) × Appends old new (take count bytes)

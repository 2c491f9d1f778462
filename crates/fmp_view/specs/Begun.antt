-- What is done of some deeds where one of them fails.
use Rattle.std.specs.Prelude.{ℕ, List, [], ◌∷◌, Option, take}
use Rattle.fmp_files.specs.Deeds.{Deed, Does, wrote}

-- of these deeds the first ones were done, and perhaps the next, which writes a file, with a beginning of its bytes
pub data AreBegun : (deeds done : List Deed) → Type 0 where
  no_more : (deeds : List Deed) → AreBegun deeds []
  partly : (name bytes : List ℕ) (deeds : List Deed) (count : ℕ)
      → AreBegun (wrote name bytes ∷ deeds) (wrote name (take count bytes) ∷ [])
  and_more : (deed : Deed) (deeds done : List Deed) → AreBegun deeds done → AreBegun (deed ∷ deeds) (deed ∷ done)

-- deeds were begun
pub record BeginsDeeds (deeds : List Deed) (before after : Option (List Deed)) : Type 0 where
  pub done : List Deed
  pub are : AreBegun deeds done
  pub does : Does before done after

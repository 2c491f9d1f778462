-- A word that is read of a list.
use Rattle.std.proofs.Common.{◌≡◌, ℕ, List, ℤ, pos, sym}
use Rattle.std.specs.Prelude.{get_or, slice_get}
use Rattle.std.specs.Option.{unwrap_or}
use Rattle.std.proofs.lemmas.Option.{unwrap_or-slice_get}

pub word_read : (xs : List ℤ) (i : ℕ) → get_or xs i (pos 0) ≡ unwrap_or (slice_get xs i) (pos 0)
word_read xs i = sym (unwrap_or-slice_get xs i (pos 0))

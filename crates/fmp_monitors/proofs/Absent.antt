-- What is read of a place that is not there.
use Rattle.std.proofs.Common.{◌≡◌, ℕ, ◌≤◌, List, ap, length, slice_get}
use Rattle.std.proofs.lemmas.Option.{slice_get_past}
use Rattle.fmp_base.specs.Systems.{found}

pub found_past : {A : Type 0} (d : A) (xs : List A) (i : ℕ) → length xs ≤ i → found d (slice_get xs i) ≡ d
found_past d xs i h = ap (found d) (slice_get_past xs i h)

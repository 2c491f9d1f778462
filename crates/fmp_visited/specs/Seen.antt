-- The states that were seen.
use Rattle.std.specs.Prelude.{◌≡◌, ℕ, ◌≤◌, List, [], ◌∷◌, ◌++◌, length, slice_get, Some}
use Rattle.fmp_visited.specs.declared.link.StateLink.{StateLink}
use Rattle.fmp_visited.specs.declared.link.RowEntry.{RowEntry}
use Rattle.fmp_visited.specs.declared.link.RowEntry.TheVariants.{New, Known, Full}

-- by the place of a state: its row, and how it was reached; and how many states may be kept
pub record SeenStates : Type 0 where
  pub rows : List (List ℕ)
  pub links : List StateLink
  pub most : ℕ

-- the states with one more
abbrev pub with_state : SeenStates → List ℕ → StateLink → SeenStates
with_state seen row link = record seen { rows = seen.rows ++ row ∷ []; links = seen.links ++ link ∷ [] }

-- what becomes of the states where a row is looked up: a new one is kept after the others, if one more may be
abbrev pub Adds : (old new : SeenStates) → List ℕ → StateLink → RowEntry → Type 0
Adds old new row link (New i) = (i ≡ length old.links) × (new ≡ with_state old row link)
Adds old new row link (Known i) = (new ≡ old) × (slice_get old.rows i ≡ Some row)
Adds old new row link Full = (new ≡ old) × (old.most ≤ length old.links)

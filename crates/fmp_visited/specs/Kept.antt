-- The states that are kept.
use Rattle.std.specs.Prelude.{ℕ, ◌+◌, ◌*◌, ◌≤◌, List, length, map, take, drop, All}
use Rattle.fmp_visited.specs.declared.link.StateLink.{StateLink}
use Rattle.fmp_visited.specs.declared.kept.State.{State}

-- by the place of a state: its row, and how it was reached
pub record KeptStates : Type 0 where
  pub rows : List (List ℕ)
  pub links : List StateLink

-- the place where the row of a state begins
unfoldable pub start_of : State → ℕ
start_of state = 4294967296 * state.start_high + state.start_low

-- how a state was reached
abbrev pub link_of : State → StateLink
link_of state = record { parent = state.parent; event = state.event; kept = state.kept; depth = state.depth }

-- the bytes of the row of a state
unfoldable pub row_in : List ℕ → State → List ℕ
row_in bytes state = take state.length (drop (start_of state) bytes)

-- the states of which these bytes hold the rows
abbrev pub kept_states : List ℕ → List State → KeptStates
kept_states bytes states = record { rows = map (row_in bytes) states; links = map link_of states }

-- each row lies within the bytes
abbrev pub AreWithin : List ℕ → List State → Type 0
AreWithin bytes states = All (λ (s : State). start_of s + s.length ≤ length bytes) states

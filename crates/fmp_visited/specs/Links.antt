-- Links: how each state was reached, and the events that lead to it.
use Rattle.std.specs.Prelude.{◌≡◌, ℕ, zero, suc, ◌+◌, List, [], ◌∷◌, ◌++◌, take, slice_get, Some, IsSomeAnd}
use Rattle.std.specs.Option.{option_map_or}
use Rattle.fmp_base.specs.declared.events.Event.{Event}
use Rattle.fmp_visited.specs.declared.link.StateLink.{StateLink}

-- the last events, this many, on the way to the state at a place
abbrev pub last_events : (count : ℕ) → List StateLink → ℕ → List Event
last_events zero links i = []
last_events (suc count) links i =
    option_map_or (λ link. last_events count links link.parent ++ link.event ∷ []) (slice_get links i) []

-- the events that lead to the state at a place, in order; none if there is no such state
unfoldable pub path_of : List StateLink → ℕ → List Event
path_of links i = option_map_or (λ link. last_events link.depth links i) (slice_get links i) []

-- after these links another may stand: the first has depth 0, and each other one the depth of its parent, which is one
-- of these, and one more
abbrev pub IsLink : List StateLink → StateLink → Type 0
IsLink [] link = link.depth ≡ 0
IsLink (before ∷ more) link =
    IsSomeAnd (slice_get (before ∷ more) link.parent) (λ parent. link.depth ≡ parent.depth + 1)

-- each link may stand after those before it
pub record AreLinked (links : List StateLink) : Type 0 where
  pub each : (i : ℕ) (link : StateLink) → slice_get links i ≡ Some link → IsLink (take i links) link

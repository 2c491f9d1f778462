-- How links stand for lists. Places below n are nodes; the place n + h is the head h, from which its ring starts and to
-- which it comes back.
use Rattle.std.specs.Prelude.{◌≡◌, ℕ, zero, suc, ◌+◌, ◌<◌, List, [], ◌∷◌, length, cond, nat_lt, false}
use Rattle.fmp_base.specs.Links.{link_at}
use Rattle.fmp_ring.specs.RingLists.{RingLists, list_at, is_linked}
use Rattle.fmp_ring.specs.declared.rings.Rings.TheInside.{Inside}

-- the nodes from p on, up to the first place that is none, and at most as many as the third number says
abbrev pub walk : (ℕ → ℕ) → ℕ → ℕ → ℕ → List ℕ
walk next n zero p = []
walk next n (suc most) p = cond (nat_lt p n) (p ∷ walk next n most (next p)) []

-- the lists of the given number of heads, whose places start at p
abbrev pub walks : (ℕ → ℕ) → ℕ → ℕ → ℕ → List (List ℕ)
walks next n p zero = []
walks next n p (suc heads) = walk next n n (next p) ∷ walks next n (p + 1) heads

-- the links lead from a over the list to z, and back
abbrev pub Chain : ℕ → (ℕ → ℕ) → (ℕ → ℕ) → ℕ → List ℕ → ℕ → Type 0
Chain n next previous a [] z = (next a ≡ z) × (previous z ≡ a)
Chain n next previous a (t ∷ ts) z = (t < n) × (next a ≡ t) × (previous t ≡ a) × Chain n next previous t ts z

-- the links are rings, one for each list
pub record AreChains (n : ℕ) (next previous : ℕ → ℕ) (lists : List (List ℕ)) : Type 0 where
  pub each : (h : ℕ) → h < length lists → Chain n next previous (n + h) (list_at lists h) (n + h)

-- a node that stands in no list links to itself
pub record AreMarked (n : ℕ) (next : ℕ → ℕ) (lists : List (List ℕ)) : Type 0 where
  pub each : (y : ℕ) → y < n → is_linked y lists ≡ false → next y ≡ y

unfoldable pub lists_of : ℕ → ℕ → List ℕ → List (List ℕ)
lists_of nodes heads next = walks (link_at next) nodes nodes heads

abbrev pub ring_lists : Inside → RingLists
ring_lists a = record { nodes = a.nodes; lists = lists_of a.nodes a.heads a.next }

-- arrays of links for this many nodes and heads, which are rings
pub record AreRings (nodes heads : ℕ) (next previous : List ℕ) : Type 0 where
  pub next_count : length next ≡ nodes + heads
  pub previous_count : length previous ≡ nodes + heads
  pub chains : AreChains nodes (link_at next) (link_at previous) (lists_of nodes heads next)
  pub marked : AreMarked nodes (link_at next) (lists_of nodes heads next)

abbrev pub HasRings : Inside → Type 0
HasRings a = AreRings a.nodes a.heads a.next a.previous

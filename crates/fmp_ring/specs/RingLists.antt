-- Lists of nodes, one for each head, as callers see them.
use Rattle.std.specs.Prelude.{◌≡◌, ℕ, List, [], ◌∷◌, ◌++◌, Option, Some, None, Bool, true, map, cond, nat_eq}
use Rattle.std.specs.Prelude.{slice_index_or}
use Rattle.std.specs.List.{list_any, after_first}
use Rattle.fmp_base.specs.Queues.{first_of}
use Rattle.fmp_base.specs.States.{without}

-- a list for each head, of nodes below `nodes`; a node stands in at most one
pub record RingLists : Type 0 where
  pub nodes : ℕ
  pub lists : List (List ℕ)

-- the list of a head
abbrev pub list_at : List (List ℕ) → ℕ → List ℕ
list_at lists head = slice_index_or lists head []

abbrev pub is_in : ℕ → List ℕ → Bool
is_in x l = list_any (nat_eq x) l

-- whether a node stands in one of the lists
abbrev pub is_linked : ℕ → List (List ℕ) → Bool
is_linked x lists = list_any (is_in x) lists

-- no node stands in two of the lists
abbrev pub AreDisjoint : List (List ℕ) → Type 0
AreDisjoint lists =
    (x g h : ℕ) → is_in x (list_at lists g) ≡ true → is_in x (list_at lists h) ≡ true → g ≡ h

-- the first, if any, goes to the end
abbrev pub rotated : List ℕ → List ℕ
rotated [] = []
rotated (t ∷ ts) = ts ++ t ∷ []

-- all but the first
abbrev pub behind_first : List ℕ → List ℕ
behind_first [] = []
behind_first (t ∷ ts) = ts

-- x comes right before `at`, if that is there
abbrev pub inserted_before : ℕ → ℕ → List ℕ → List ℕ
inserted_before at x [] = []
inserted_before at x (t ∷ ts) = cond (nat_eq t at) (x ∷ t ∷ ts) (t ∷ inserted_before at x ts)

-- what comes after x
abbrev pub behind : ℕ → List ℕ → List ℕ
behind x l = after_first (nat_eq x) l

-- the one that follows x, if any
abbrev pub follower : ℕ → List ℕ → Option ℕ
follower x l = first_of (behind x l)

-- the rest of a list from a node on
abbrev pub from_node : Option ℕ → List ℕ → List ℕ
from_node None l = []
from_node (Some x) l = x ∷ behind x l

-- the lists with x before `at`, in the one in which that stands
abbrev pub with_before : ℕ → ℕ → List (List ℕ) → List (List ℕ)
with_before at x lists = map (inserted_before at x) lists

-- the lists without x, in the one in which it stands
abbrev pub without_node : ℕ → List (List ℕ) → List (List ℕ)
without_node x lists = map (λ l. without l x) lists

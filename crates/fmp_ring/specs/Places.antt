-- Where a node comes in a list that is in priority order.
use Rattle.std.specs.Prelude.{◌≡◌, ℕ, List, [], ◌∷◌, ◌++◌, Option, Some, None, true}
use Rattle.fmp_base.specs.MailboxCalls.{behind_equals}
use Rattle.fmp_ring.specs.RingLists.{is_in, inserted_before, from_node}

-- before the node, or last if there is none, x comes behind those that are at least as urgent, where f gives priorities
abbrev pub IsPlace : (ℕ → ℕ) → ℕ → List ℕ → Option ℕ → Type 0
IsPlace f x l None = l ++ x ∷ [] ≡ behind_equals f x l
IsPlace f x l (Some at) = (is_in at l ≡ true) × (inserted_before at x l ≡ behind_equals f x l)

-- a walk that came to a node, past those that are at least as urgent as x
pub record Walked (f : ℕ → ℕ) (x : ℕ) (l : List ℕ) (at : Option ℕ) : Type 0 where
  pub past : List ℕ
  pub split : l ≡ past ++ from_node at l
  pub rest : behind_equals f x l ≡ past ++ behind_equals f x (from_node at l)

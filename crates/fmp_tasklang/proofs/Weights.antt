-- The weight of what is to do bounds the items before the next mark, so that only turns bound a stretch.
use Rattle.std.proofs.Common.{◌≡◌, ℕ, zero, suc, ◌+◌, ◌≤◌, ◌<◌, List, [], ◌∷◌, Bool, true, false, Result, Ok, Err, refl}
use Rattle.std.proofs.Common.{◌∙◌, arith}
use Rattle.std.specs.Prelude.{if◌then◌else◌}
use Rattle.fmp_base.specs.declared.bodies.Fault.{Fault}
use Rattle.fmp_base.specs.Operators.{is_zero, place_in}
use Rattle.fmp_tasklang.specs.Trees.{StatementTree, assign, assign_element, service_call, if_then, if_else, while}
use Rattle.fmp_tasklang.specs.Trees.{break, continue, return, Block, empty, next}
use Rattle.fmp_tasklang.specs.Scopes.{Scope, meaning_of}
use Rattle.fmp_tasklang.specs.Values.{Values, array_places, value, values}
use Rattle.fmp_tasklang.specs.Contexts.{Item, Do, Mark, items_before}
use Rattle.fmp_tasklang.specs.Stretches.{Way, Next, Goes, Turns, Stops, with_value, after_mark, from_mark}
use Rattle.fmp_tasklang.specs.Stretches.{after_statement, after_item, statement_weight, block_weight, weight, follow}
use Rattle.fmp_tasklang.specs.Stretches.{out_of_turns, walk, turns}
use Rattle.fmp_tasklang.specs.Laws.{FollowsEachItem}

one-le-statement_weight : (s : StatementTree) → 1 ≤ statement_weight s
one-le-statement_weight (assign w e) = omega arith
one-le-statement_weight (assign_element w i e) = omega arith
one-le-statement_weight (service_call c) = omega arith
one-le-statement_weight (if_then e b) = omega arith
one-le-statement_weight (if_else e b d) = omega arith
one-le-statement_weight (while e b) = omega arith
one-le-statement_weight break = omega arith
one-le-statement_weight continue = omega arith
one-le-statement_weight return = omega arith

one-le-weight : (todo : List Item) → 1 ≤ weight todo
one-le-weight [] = omega arith
one-le-weight (Do s ∷ rest) = omega (arith, one-le-statement_weight s)
one-le-weight (Mark e b ∷ rest) = omega arith

weight-items_before :
    (b : Block) (rest : List Item) → weight (items_before b rest) ≡ block_weight b + weight rest
weight-items_before empty rest = omega arith
weight-items_before (next s b) rest = omega (arith, weight-items_before b rest)

weight-after_mark : (todo : List Item) → weight (after_mark todo) ≤ weight todo
weight-after_mark [] = omega arith
weight-after_mark (Do s ∷ rest) = omega (arith, weight-after_mark rest)
weight-after_mark (Mark e b ∷ rest) = omega arith

weight-from_mark : (todo : List Item) → weight (from_mark todo) ≤ weight todo
weight-from_mark [] = omega arith
weight-from_mark (Do s ∷ rest) = omega (arith, weight-from_mark rest)
weight-from_mark (Mark e b ∷ rest) = omega arith

-- what an item leads to before a mark weighs less than w
abbrev Lighter : ℕ → Next → Type 0
Lighter w (Goes locals todo) = weight todo < w
Lighter w (Turns locals todo) = Unit {0}
Lighter w (Stops s) = Unit {0}

with_value_lighter :
    {A : Type 0} (w : ℕ) (v : Result A Fault) (locals : Values) (rest : List Item) (go : A → Next) →
    ((x : A) → Lighter w (go x)) →
    Lighter w (with_value v locals rest go)
with_value_lighter w (Ok x) locals rest go h = h x
with_value_lighter w (Err fault) locals rest go h = tt

one_is_lighter :
    (w : ℕ) (test : Bool) (a b : List Item) → weight a < w → weight b < w → weight (if test then a else b) < w
one_is_lighter w true a b p q = p
one_is_lighter w false a b p q = q

module _ (scope : Scope) where
  statement_lighter :
      (s : StatementTree) (locals : Values) (rest : List Item) →
      Lighter (statement_weight s + weight rest) (after_statement scope s locals rest)
  statement_lighter (assign t e) locals rest =
      with_value_lighter (1 + weight rest) (value scope locals e) locals rest _ (λ x. omega arith)
  statement_lighter (assign_element t i e) locals rest =
      with_value_lighter (1 + weight rest) (value scope locals i) locals rest _ (λ i.
      with_value_lighter (1 + weight rest) (value scope locals e) locals rest _ (λ x.
      with_value_lighter (1 + weight rest) (place_in (array_places scope (meaning_of scope t.name)) i) locals rest _
      (λ place. omega arith)))
  statement_lighter (service_call c) locals rest =
      with_value_lighter (1 + weight rest) (values scope locals c.arguments) locals rest _ (λ x. tt)
  statement_lighter (if_then e b) locals rest =
      let w = block_weight b + 1 + weight rest in
      let skips : weight rest < w = omega arith in
      let does : weight (items_before b rest) < w = omega (arith, weight-items_before b rest) in
      with_value_lighter w (value scope locals e) locals rest _ (λ x. one_is_lighter w (is_zero x) _ _ skips does)
  statement_lighter (if_else e b d) locals rest =
      let w = block_weight b + block_weight d + 1 + weight rest in
      let other : weight (items_before d rest) < w = omega (arith, weight-items_before d rest) in
      let does : weight (items_before b rest) < w = omega (arith, weight-items_before b rest) in
      with_value_lighter w (value scope locals e) locals rest _ (λ x. one_is_lighter w (is_zero x) _ _ other does)
  statement_lighter (while e b) locals rest =
      let w = block_weight b + 2 + weight rest in
      let again = Mark e b ∷ rest in
      let skips : weight rest < w = omega arith in
      let does : weight (items_before b again) < w = omega (arith, weight-items_before b again) in
      with_value_lighter w (value scope locals e) locals rest _ (λ x. one_is_lighter w (is_zero x) _ _ skips does)
  statement_lighter break locals rest = omega (arith, weight-after_mark rest)
  statement_lighter continue locals rest = omega (arith, weight-from_mark rest)
  statement_lighter return locals rest = omega (arith, one-le-weight rest)

  item_lighter : (locals : Values) (todo : List Item) → Lighter (weight todo) (after_item scope locals todo)
  item_lighter locals [] = tt
  item_lighter locals (Do s ∷ rest) = statement_lighter s locals rest
  item_lighter locals (Mark e b ∷ rest) = tt

  -- the two ways agree on all that weighs less than w
  abbrev SameBelow : ℕ → (go go' : Way) → Type 0
  SameBelow w go go' = (locals : Values) (todo : List Item) → weight todo < w → go locals todo ≡ go' locals todo

  follow_same :
      (again go go' : Way) (w : ℕ) →
      SameBelow w go go' →
      (n : Next) →
      Lighter w n →
      follow again go n ≡ follow again go' n
  follow_same again go go' w h (Goes locals todo) lt = h locals todo lt
  follow_same again go go' w h (Turns locals todo) lt = refl
  follow_same again go go' w h (Stops s) lt = refl

  -- more items than the weight change nothing
  walk_same :
      (again : Way) (m n : ℕ) (locals : Values) (todo : List Item) →
      weight todo ≤ m →
      weight todo ≤ n →
      walk scope again m locals todo ≡ walk scope again n locals todo
  walk_same again zero n locals todo p q = absurd (omega (arith, p, one-le-weight todo))
  walk_same again (suc m) zero locals todo p q = absurd (omega (arith, q, one-le-weight todo))
  walk_same again (suc m) (suc n) locals todo p q =
      let go = walk scope again m in
      let go' = walk scope again n in
      let same : SameBelow (weight todo) go go' =
      λ l d lt. walk_same again m n l d (omega (arith, lt, p)) (omega (arith, lt, q)) in
      follow_same again go go' (weight todo) same (after_item scope locals todo) (item_lighter locals todo)

  -- one item after another, as many as the weight
  abbrev by_weight : Way → Way
  by_weight again locals todo = walk scope again (weight todo) locals todo

  walk_follows :
      (again : Way) (locals : Values) (todo : List Item) →
      by_weight again locals todo ≡ follow again (by_weight again) (after_item scope locals todo)
  walk_follows again locals todo =
      let n = weight todo in
      let go = walk scope again n in
      let same : SameBelow n go (by_weight again) =
      λ l d lt. walk_same again n (weight d) l d (omega (arith, lt)) (omega arith) in
      walk_same again n (suc n) locals todo (omega arith) (omega arith) ∙
      follow_same again go (by_weight again) n same (after_item scope locals todo) (item_lighter locals todo)

pub follows_each_item : FollowsEachItem
follows_each_item scope zero locals todo = walk_follows scope out_of_turns locals todo
follows_each_item scope (suc t) locals todo = walk_follows scope (turns scope t) locals todo

-- A text's stretch that is over its bound hands over nothing.
use Rattle.std.proofs.Common.{◌≡◌, ℕ, zero, suc, List, [], ◌∷◌, None, Result, Ok, Err, true, false, refl}
use Rattle.fmp_base.specs.declared.bodies.Fault.{Fault}
use Rattle.fmp_base.specs.Operators.{place_in}
use Rattle.fmp_base.specs.Stretches.{is_over}
use Rattle.fmp_base.specs.Stretches as ends
use Rattle.fmp_tasklang.specs.Trees.{StatementTree, assign, assign_element, service_call, if_then, if_else, while}
use Rattle.fmp_tasklang.specs.Trees.{break, continue, return}
use Rattle.fmp_tasklang.specs.Scopes.{Scope, meaning_of}
use Rattle.fmp_tasklang.specs.Contexts.{Item, Do, Mark}
use Rattle.fmp_tasklang.specs.Values.{Values, array_places, value, values}
use Rattle.fmp_tasklang.specs.Stretches.{Way, Next, Goes, Turns, Stops, with_value, after_statement, after_item, follow}
use Rattle.fmp_tasklang.specs.Stretches.{out_of_turns, walk, weight, turns}
use Rattle.fmp_tasklang.specs.Laws.{HandsOverNothing}

-- what stops is not over its bound
abbrev StopsWithin : Next → Type 0
StopsWithin (Goes locals todo) = Unit {0}
StopsWithin (Turns locals todo) = Unit {0}
StopsWithin (Stops s) = is_over s ≡ false

with_value_within :
    {A : Type 0} (r : Result A Fault) (locals : Values) (rest : List Item) (go : A → Next) →
    ((x : A) → StopsWithin (go x)) → StopsWithin (with_value r locals rest go)
with_value_within (Ok x) locals rest go h = h x
with_value_within (Err fault) locals rest go h = refl

statement_within :
    (scope : Scope) (s : StatementTree) (locals : Values) (rest : List Item) →
    StopsWithin (after_statement scope s locals rest)
statement_within scope (assign w e) locals rest = with_value_within (value scope locals e) locals rest _ (λ x. tt)
statement_within scope (assign_element w index e) locals rest =
    with_value_within (value scope locals index) locals rest _
    (λ i. with_value_within (value scope locals e) locals rest _
    (λ x. with_value_within (place_in (array_places scope (meaning_of scope w.name)) i) locals rest _ (λ place. tt)))
statement_within scope (service_call c) locals rest =
    with_value_within (values scope locals c.arguments) locals rest _ (λ xs. refl)
statement_within scope (if_then e b) locals rest = with_value_within (value scope locals e) locals rest _ (λ x. tt)
statement_within scope (if_else e b d) locals rest = with_value_within (value scope locals e) locals rest _ (λ x. tt)
statement_within scope (while e b) locals rest = with_value_within (value scope locals e) locals rest _ (λ x. tt)
statement_within scope break locals rest = tt
statement_within scope continue locals rest = tt
statement_within scope return locals rest = tt

item_within : (scope : Scope) (locals : Values) (todo : List Item) → StopsWithin (after_item scope locals todo)
item_within scope locals [] = refl
item_within scope locals (Do s ∷ rest) = statement_within scope s locals rest
item_within scope locals (Mark e b ∷ rest) = tt

-- where it is over its bound, it hands over nothing
abbrev Bare : Way → Type 0
Bare f = (locals : Values) (todo : List Item) → is_over (f locals todo) ≡ true → f locals todo ≡ ends.Over None

follow_bare :
    (again go : Way) → Bare again → Bare go → (n : Next) → StopsWithin n → is_over (follow again go n) ≡ true →
    follow again go n ≡ ends.Over None
follow_bare again go a g (Goes locals todo) h e = g locals todo e
follow_bare again go a g (Turns locals todo) h e = a locals todo e
follow_bare again go a g (Stops s) h e = absurd (cc (h, e))

module _ (scope : Scope) where
  walk_bare : (again : Way) → Bare again → (n : ℕ) → Bare (walk scope again n)
  walk_bare again a zero locals todo e = refl
  walk_bare again a (suc n) locals todo e =
      follow_bare again (walk scope again n) a (walk_bare again a n) (after_item scope locals todo)
      (item_within scope locals todo) e

  turns_bare : (t : ℕ) → Bare (turns scope t)
  turns_bare zero locals todo e = walk_bare out_of_turns (λ l d o. refl) (weight todo) locals todo e
  turns_bare (suc t) locals todo e = walk_bare (turns scope t) (turns_bare t) (weight todo) locals todo e

pub hands_over_nothing : HandsOverNothing
hands_over_nothing scope t c e = turns_bare scope t c.locals c.todo e

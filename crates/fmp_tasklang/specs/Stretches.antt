-- A stretch of a body: what it does up to its next service call, its end or its fault.
use Rattle.std.specs.Prelude.{ℕ, zero, suc, ◌+◌, List, [], ◌∷◌, Option, Some, None, Result, Ok, Err, if◌then◌else◌}
use Rattle.fmp_base.specs.declared.bodies.Fault.{Fault}
use Rattle.fmp_base.specs.Operators.{is_zero, place_in}
use Rattle.fmp_base.specs.Services.{request}
use Rattle.fmp_base.specs.Stretches.{Ending}
use Rattle.fmp_base.specs.Stretches as ends
use Rattle.fmp_tasklang.specs.declared.trees.Word.{Word}
use Rattle.fmp_tasklang.specs.Trees.{CallTree, StatementTree, assign, assign_element, service_call, if_then, if_else}
use Rattle.fmp_tasklang.specs.Trees.{while, break, continue, return, Block, empty, next}
use Rattle.fmp_tasklang.specs.Scopes.{Scope, NameMeaning, Variable, Array, Object, Unknown, meaning_of}
use Rattle.fmp_tasklang.specs.Values.{Values, set_at, array_number, array_places, value, values}
use Rattle.fmp_tasklang.specs.Contexts.{Item, Do, Mark, Receivers, TextContext, going, calling, written, items_before}

-- `break` drops all through the first mark
abbrev pub after_mark : List Item → List Item
after_mark [] = []
after_mark (Do s ∷ rest) = after_mark rest
after_mark (Mark e b ∷ rest) = rest

-- `continue` drops all before the first mark
abbrev pub from_mark : List Item → List Item
from_mark [] = []
from_mark (Do s ∷ rest) = from_mark rest
from_mark (Mark e b ∷ rest) = Mark e b ∷ rest

-- the number of a variable that is written; none if the name is no variable
abbrev pub variable_number : NameMeaning → Option ℕ
variable_number (Variable number) = Some number
variable_number (Array number) = None
variable_number (Object k) = None
variable_number Unknown = None

-- the number of the variable that a word names, if there is a word
abbrev pub word_number : Scope → Option Word → Option ℕ
word_number scope None = None
word_number scope (Some w) = variable_number (meaning_of scope w.name)

-- where the reply of a call goes
abbrev pub receivers_of : Scope → CallTree → Receivers
receivers_of scope c =
    record { service = c.service; out = word_number scope c.out; result = word_number scope c.result }

-- what one item leads to: it goes on, it goes on after a turn of a loop, or the stretch stops
pub data Next : Type 0 where
  Goes : Values → List Item → Next
  Turns : Values → List Item → Next
  Stops : Ending TextContext → Next

-- a way on: the stretch from some locals and items
abbrev pub Way : Type 0
Way = Values → List Item → Ending TextContext

-- goes on with a value, or stops with its fault
abbrev pub with_value : {A : Type 0} → Result A Fault → Values → List Item → (A → Next) → Next
with_value (Ok x) locals rest go = go x
with_value (Err fault) locals rest go = Stops (ends.Fault (going locals rest) fault)

-- what a statement leads to; `rest` is to do after it
abbrev pub after_statement : Scope → StatementTree → Values → List Item → Next
after_statement scope (assign w e) locals rest =
    with_value (value scope locals e) locals rest
    (λ x. Goes (written locals (word_number scope (Some w)) x) rest)
after_statement scope (assign_element w index e) locals rest =
    let array = meaning_of scope w.name in
    with_value (value scope locals index) locals rest
    (λ i. with_value (value scope locals e) locals rest
    (λ x. with_value (place_in (array_places scope array) i) locals rest
    (λ place. Goes (set_at locals (array_number array) place x) rest)))
after_statement scope (service_call c) locals rest =
    with_value (values scope locals c.arguments) locals rest
    (λ xs. Stops (ends.Call (calling locals rest (receivers_of scope c)) (request c.service xs)))
after_statement scope (if_then e b) locals rest =
    with_value (value scope locals e) locals rest
    (λ x. Goes locals (if is_zero x then rest else items_before b rest))
after_statement scope (if_else e b d) locals rest =
    with_value (value scope locals e) locals rest
    (λ x. Goes locals (if is_zero x then items_before d rest else items_before b rest))
after_statement scope (while e b) locals rest =
    with_value (value scope locals e) locals rest
    (λ x. Goes locals (if is_zero x then rest else items_before b (Mark e b ∷ rest)))
after_statement scope break locals rest = Goes locals (after_mark rest)
after_statement scope continue locals rest = Goes locals (from_mark rest)
after_statement scope return locals rest = Goes locals []

-- what the first item leads to; at a mark a turn of the loop is done, and its `while` is put back
abbrev pub after_item : Scope → Values → List Item → Next
after_item scope locals [] = Stops (ends.End (going locals []))
after_item scope locals (Do s ∷ rest) = after_statement scope s locals rest
after_item scope locals (Mark e b ∷ rest) = Turns locals (Do (while e b) ∷ rest)

-- at least as many as the items that come before the next mark
abbrev mutual
  pub statement_weight : StatementTree → ℕ
  statement_weight (assign w e) = 1
  statement_weight (assign_element w i e) = 1
  statement_weight (service_call c) = 1
  statement_weight (if_then e b) = block_weight b + 1
  statement_weight (if_else e b d) = block_weight b + block_weight d + 1
  statement_weight (while e b) = block_weight b + 2
  statement_weight break = 1
  statement_weight continue = 1
  statement_weight return = 1

  pub block_weight : Block → ℕ
  block_weight empty = 0
  block_weight (next s b) = statement_weight s + block_weight b

-- the weight of all that is to do
abbrev pub weight : List Item → ℕ
weight [] = 1
weight (Do s ∷ rest) = statement_weight s + weight rest
weight (Mark e b ∷ rest) = 1 + weight rest

-- goes where an item leads: on by `go`, or after a turn by `again`
abbrev pub follow : (again go : Way) → Next → Ending TextContext
follow again go (Goes locals todo) = go locals todo
follow again go (Turns locals todo) = again locals todo
follow again go (Stops s) = s

-- more turns are needed; nothing is handed over
abbrev pub out_of_turns : Way
out_of_turns locals todo = ends.Over None

-- one item after another, at most n
abbrev pub walk : Scope → Way → ℕ → Way
walk scope again zero locals todo = out_of_turns locals todo
walk scope again (suc fuel) locals todo = follow again (walk scope again fuel) (after_item scope locals todo)

-- at most t turns of loops
abbrev pub turns : Scope → ℕ → Way
turns scope zero locals todo = walk scope out_of_turns (weight todo) locals todo
turns scope (suc t) locals todo = walk scope (turns scope t) (weight todo) locals todo

-- the stretch from a context, in at most t turns of loops
abbrev pub stretch : Scope → ℕ → TextContext → Ending TextContext
stretch scope t c = turns scope t c.locals c.todo

-- The value of an expression where the locals have these values: exact arithmetic, then the test of 32 bits; operands
-- from left to right, and the first fault in place of the value.
use Rattle.std.specs.Prelude.{ℕ, ℤ, pos, List, [], ◌∷◌, Result, Ok, if◌then◌else◌, get_or, slice_set}
use Rattle.fmp_base.specs.declared.bodies.Fault.{Fault}
use Rattle.fmp_base.specs.Operators.{Value, is_zero, truth_of, unary_value, and_then, binary_value, place_in}
use Rattle.fmp_tasklang.specs.Layout.{places_at}
use Rattle.fmp_tasklang.specs.Trees.{ExpressionTree, number, named, element, unary, binary, both, either}
use Rattle.fmp_tasklang.specs.Scopes.{Scope, NameMeaning, Variable, Array, Object, Unknown, meaning_of}

-- the values of the locals by their numbers, each a list of those at its places
abbrev pub Values : Type 0
Values = List (List ℤ)

-- the value of the local of a number at a place
abbrev pub value_at : Values → (v place : ℕ) → ℤ
value_at locals v place = get_or (get_or locals v []) place (pos 0)

-- the values after one is set
abbrev pub set_at : Values → (v place : ℕ) → ℤ → Values
set_at locals v place x = slice_set locals v (slice_set (get_or locals v []) place x)

-- what a name stands for: the value of a variable, or an object's number; an accepted body has no other name here
abbrev pub name_value : Values → NameMeaning → ℤ
name_value locals (Variable v) = value_at locals v 0
name_value locals (Array v) = pos 0
name_value locals (Object k) = pos k
name_value locals Unknown = pos 0

-- the number of an array; an accepted body has no other name before an index
abbrev pub array_number : NameMeaning → ℕ
array_number (Array v) = v
array_number _ = 0

-- how many places an array has; what is no array has none
abbrev pub array_places : Scope → NameMeaning → ℕ
array_places scope (Array v) = places_at scope.locals v
array_places scope _ = 0

-- the value of the element of an array at an index
abbrev pub element_value : Scope → Values → NameMeaning → ℤ → Value
element_value scope locals array index =
    and_then (place_in (array_places scope array) index) (λ i. Ok (value_at locals (array_number array) i))

-- `&&`: the right operand counts only where the left one, x, is not 0
abbrev pub both_value : ℤ → Value → Value
both_value x right = if is_zero x then Ok (pos 0) else and_then right (λ y. Ok (truth_of y))

-- `||`: the right operand counts only where the left one, x, is 0
abbrev pub either_value : ℤ → Value → Value
either_value x right = if is_zero x then and_then right (λ y. Ok (truth_of y)) else Ok (pos 1)

abbrev pub value : Scope → Values → ExpressionTree → Value
value scope locals (number k) = Ok k
value scope locals (named w) = Ok (name_value locals (meaning_of scope w.name))
value scope locals (element w index) =
    and_then (value scope locals index) (element_value scope locals (meaning_of scope w.name))
value scope locals (unary op e) = and_then (value scope locals e) (unary_value op)
value scope locals (binary op a b) =
    and_then (value scope locals a) (λ x. and_then (value scope locals b) (binary_value op x))
value scope locals (both a b) = and_then (value scope locals a) (λ x. both_value x (value scope locals b))
value scope locals (either a b) = and_then (value scope locals a) (λ x. either_value x (value scope locals b))

-- the values of arguments, from left to right
abbrev pub values : Scope → Values → List ExpressionTree → Result (List ℤ) Fault
values scope locals [] = Ok []
values scope locals (e ∷ es) =
    and_then (value scope locals e) (λ x. and_then (values scope locals es) (λ xs. Ok (x ∷ xs)))

-- The members of an object of JSON, and an object in one line.
use Rattle.std.specs.Prelude.{ℕ, List, [], ◌∷◌, ◌++◌, decimal}
use Rattle.json.specs.Token.{Token, begin_array, begin_object, end_array, end_object, key, number, string}
use Rattle.json.specs.Print.{print}

-- a member whose value is a text
unfoldable pub text_member : (name text : List ℕ) → List Token
text_member name text = key name ∷ string text ∷ []

-- a member whose value is a number
unfoldable pub number_member : (name : List ℕ) → ℕ → List Token
number_member name n = key name ∷ number (decimal n) ∷ []

-- the begin of a member whose value is a list, and its end
unfoldable pub list_begin : (name : List ℕ) → List Token
list_begin name = key name ∷ begin_array ∷ []

unfoldable pub list_end : List Token
list_end = end_array ∷ []

-- what was begun, ended, in one line
unfoldable pub finished : List Token → List ℕ
finished tokens = print (tokens ++ end_object ∷ []) ++ 10 ∷ []

-- an object with these members, in one line
abbrev pub object_line : (members : List Token) → List ℕ
object_line members = finished (begin_object ∷ members)

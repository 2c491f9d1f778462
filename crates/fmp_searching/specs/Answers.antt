-- The answers that calls got, as they are printed.
use Rattle.std.specs.Prelude.{ℕ, List, [], ◌∷◌, ◌++◌, codes, decimal}
use Rattle.std.specs.List.{flat_map}
use Rattle.fmp_base.specs.Codes.{code_name}
use Rattle.fmp_base.specs.declared.codes.Er.{Er}
use Rattle.fmp_searching.specs.Made.{AnsweredCall}

abbrev pub name_text : Er → List ℕ
name_text code = codes " " ++ code_name code

-- the codes that a call got, or that it got none
abbrev pub names_text : List Er → List ℕ
names_text [] = codes " none"
names_text (code ∷ more) = flat_map (λ c. name_text c) (code ∷ more)

-- where a call stands in this file: its line and its column
unfoldable pub position_text : (src : List ℕ) → AnsweredCall → List ℕ
position_text src call = src ++ (codes ":" ++ (decimal call.line ++ (codes ":" ++ decimal call.column)))

-- a line of what is printed: where a call stands in this file, and what it got
unfoldable pub answered_text : (src : List ℕ) → AnsweredCall → List ℕ
answered_text src call =
    codes "answers at " ++ (position_text src call ++ (codes ":" ++ (names_text call.answers ++ codes "\n")))

abbrev pub answers_text : (src : List ℕ) → List AnsweredCall → List ℕ
answers_text src calls = flat_map (λ call. answered_text src call) calls

-- The instructions of a tree. Jumps lead to places counted from the body's beginning, so each tree is given the
-- place at which its code begins.
use Rattle.std.specs.Prelude.{ℕ, ◌+◌, pos, List, [], ◌∷◌, ◌++◌, Option, option_map}
use Rattle.fmp_base.specs.Systems.{SystemTables, found}
use Rattle.fmp_tasklang.specs.declared.trees.Word.{Word}
use Rattle.fmp_tasklang.specs.Trees.{ExpressionTree, number, named, element, unary, binary, both, either, CallTree}
use Rattle.fmp_tasklang.specs.Trees.{StatementTree, assign, assign_element, service_call, if_then, if_else, while}
use Rattle.fmp_tasklang.specs.Trees.{break, continue, return, Block, empty, next, BodyTree}
use Rattle.fmp_tasklang.specs.Layout.{Local, first_place}
use Rattle.fmp_tasklang.specs.Scopes.{Scope, NameMeaning, Variable, Array, Object, Unknown, meaning_of, scope_of}
use Rattle.fmp_tasklang.specs.Stretches.{variable_number, word_number}
use Rattle.fmp_tasklang.specs.Values.{array_number, array_places}
use Rattle.fmp_instructions.specs.declared.instructions.Instruction.{Instruction}
use Rattle.fmp_instructions.specs.declared.instructions.Instruction.TheVariants.{Push, Load, Store, LoadIndexed}
use Rattle.fmp_instructions.specs.declared.instructions.Instruction.TheVariants.{StoreIndexed, Unary, Truth, Binary}
use Rattle.fmp_instructions.specs.declared.instructions.Instruction.TheVariants.{Jump, JumpIfZero, Call, End}
use Rattle.fmp_scopes.specs.Sizes.{expression_size, statement_size, block_size}

-- a variable is loaded from its place, an object's number is pushed; no body that is accepted has another name here
abbrev pub name_code : List Local → NameMeaning → Instruction
name_code locals (Variable v) = Load (first_place locals v)
name_code locals (Array v) = Push (pos 0)
name_code locals (Object k) = Push (pos k)
name_code locals Unknown = Push (pos 0)

-- the first place of an array, by what its name means
abbrev pub array_base : Scope → NameMeaning → ℕ
array_base scope array = first_place scope.locals (array_number array)

-- an element is loaded and stored by an index, given the first place of its array and how many places that has
abbrev pub load_element : Scope → NameMeaning → Instruction
load_element scope array = LoadIndexed (array_base scope array) (array_places scope array)

abbrev pub store_element : Scope → NameMeaning → Instruction
store_element scope array = StoreIndexed (array_base scope array) (array_places scope array)

abbrev pub expression_code : Scope → ExpressionTree → (at : ℕ) → List Instruction
expression_code scope (number k) at = Push k ∷ []
expression_code scope (named w) at = name_code scope.locals (meaning_of scope w.name) ∷ []
expression_code scope (element w e) at = expression_code scope e at ++ load_element scope (meaning_of scope w.name) ∷ []
expression_code scope (unary op e) at = expression_code scope e at ++ Unary op ∷ []
expression_code scope (binary op a b) at =
    expression_code scope a at ++ (expression_code scope b (at + expression_size a) ++ Binary op ∷ [])
expression_code scope (both a b) at =
    let second = at + expression_size a + 1 in
    let no = second + expression_size b + 2 in
    expression_code scope a at ++
    (JumpIfZero no ∷ (expression_code scope b second ++ Truth ∷ Jump (no + 1) ∷ Push (pos 0) ∷ []))
expression_code scope (either a b) at =
    let second = at + expression_size a + 3 in
    expression_code scope a at ++
    (JumpIfZero second ∷ Push (pos 1) ∷ Jump (second + expression_size b + 1) ∷
    (expression_code scope b second ++ Truth ∷ []))

-- an assignment to an element: the index, the value, and the store, which tests the index
abbrev pub element_code : Scope → Word → (index value : ExpressionTree) → (at : ℕ) → List Instruction
element_code scope w index value at =
    expression_code scope index at ++
    (expression_code scope value (at + expression_size index) ++ store_element scope (meaning_of scope w.name) ∷ [])

-- the arguments of a call, one after another
abbrev pub arguments_code : Scope → List ExpressionTree → (at : ℕ) → List Instruction
arguments_code scope [] at = []
arguments_code scope (e ∷ es) at = expression_code scope e at ++ arguments_code scope es (at + expression_size e)

-- the place of the variable before `=`; no body that is accepted has another name there
abbrev pub target_place : Scope → Word → ℕ
target_place scope w = first_place scope.locals (found 0 (variable_number (meaning_of scope w.name)))

-- the place of the variable that a word names, if there is a word
abbrev pub word_place : Scope → Option Word → Option ℕ
word_place scope word = option_map (first_place scope.locals) (word_number scope word)

abbrev pub call_instruction : Scope → CallTree → Instruction
call_instruction scope c = Call c.service (word_place scope c.out) (word_place scope c.result)

-- a statement, and the statements of a block; `again` is the place to which a `continue` leads, and `exit` that to
-- which a `break` leads
abbrev mutual
  pub statement_code : Scope → StatementTree → (at again exit : ℕ) → List Instruction
  statement_code scope (assign w e) at again exit = expression_code scope e at ++ Store (target_place scope w) ∷ []
  statement_code scope (assign_element w i e) at again exit = element_code scope w i e at
  statement_code scope (service_call c) at again exit =
      arguments_code scope c.arguments at ++ call_instruction scope c ∷ []
  statement_code scope (if_then e s) at again exit =
      let then_ = at + expression_size e + 1 in
      expression_code scope e at ++ (JumpIfZero (then_ + block_size s) ∷ block_code scope s then_ again exit)
  statement_code scope (if_else e s r) at again exit =
      let then_ = at + expression_size e + 1 in
      let else_ = then_ + block_size s + 1 in
      expression_code scope e at ++
      (JumpIfZero else_ ∷ (block_code scope s then_ again exit ++
      (Jump (else_ + block_size r) ∷ block_code scope r else_ again exit)))
  statement_code scope (while e s) at again exit =
      let first = at + expression_size e + 1 in
      let after = first + block_size s + 1 in
      expression_code scope e at ++ (JumpIfZero after ∷ (block_code scope s first at after ++ Jump at ∷ []))
  statement_code scope break at again exit = Jump exit ∷ []
  statement_code scope continue at again exit = Jump again ∷ []
  statement_code scope return at again exit = End ∷ []

  pub block_code : Scope → Block → (at again exit : ℕ) → List Instruction
  block_code scope empty at again exit = []
  block_code scope (next s rest) at again exit =
      statement_code scope s at again exit ++ block_code scope rest (at + statement_size s) again exit

-- a whole body, with its end; outside of loops, where no accepted body has one, `break` and `continue` lead to the end
abbrev pub body_code : SystemTables → BodyTree → List Instruction
body_code tables body =
    block_code (scope_of tables body) body.statements 0 (block_size body.statements) (block_size body.statements) ++ End
    ∷ []

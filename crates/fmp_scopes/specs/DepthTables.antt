-- How many operands stand before each instruction of a tree, d standing before the first. Unreachable code has the
-- entries of its place in the tree.
use Rattle.std.specs.Prelude.{ℕ, ◌+◌, List, [], ◌∷◌, ◌++◌, length}
use Rattle.fmp_tasklang.specs.Trees.{ExpressionTree, number, named, element, unary, binary, both, either, StatementTree}
use Rattle.fmp_tasklang.specs.Trees.{assign, assign_element, service_call, if_then, if_else, while, break, continue}
use Rattle.fmp_tasklang.specs.Trees.{return, Block, empty, next, BodyTree}

abbrev pub expression_depths : ExpressionTree → (d : ℕ) → List ℕ
expression_depths (number k) d = d ∷ []
expression_depths (named w) d = d ∷ []
expression_depths (element w e) d = expression_depths e d ++ (d + 1) ∷ []
expression_depths (unary op e) d = expression_depths e d ++ (d + 1) ∷ []
expression_depths (binary op a b) d = expression_depths a d ++ (expression_depths b (d + 1) ++ (d + 2) ∷ [])
expression_depths (both a b) d =
    expression_depths a d ++ ((d + 1) ∷ (expression_depths b d ++ (d + 1) ∷ (d + 1) ∷ d ∷ []))
expression_depths (either a b) d =
    expression_depths a d ++ ((d + 1) ∷ d ∷ (d + 1) ∷ (expression_depths b d ++ (d + 1) ∷ []))

-- an assignment to an element, whose value is pushed on top of the index
abbrev pub element_depths : (index value : ExpressionTree) → List ℕ
element_depths index value = expression_depths index 0 ++ (expression_depths value 1 ++ 2 ∷ [])

-- the arguments of a call
abbrev pub arguments_depths : List ExpressionTree → (d : ℕ) → List ℕ
arguments_depths [] d = []
arguments_depths (e ∷ es) d = expression_depths e d ++ arguments_depths es (d + 1)

-- a statement, and the statements of a block: no operands stand before and after one
abbrev mutual
  pub statement_depths : StatementTree → List ℕ
  statement_depths (assign w e) = expression_depths e 0 ++ 1 ∷ []
  statement_depths (assign_element w i e) = element_depths i e
  statement_depths (service_call c) = arguments_depths c.arguments 0 ++ length c.arguments ∷ []
  statement_depths (if_then e s) = expression_depths e 0 ++ (1 ∷ block_depths s)
  statement_depths (if_else e s r) = expression_depths e 0 ++ (1 ∷ (block_depths s ++ (0 ∷ block_depths r)))
  statement_depths (while e s) = expression_depths e 0 ++ (1 ∷ (block_depths s ++ 0 ∷ []))
  statement_depths break = 0 ∷ []
  statement_depths continue = 0 ∷ []
  statement_depths return = 0 ∷ []

  pub block_depths : Block → List ℕ
  block_depths empty = []
  block_depths (next s rest) = statement_depths s ++ block_depths rest

-- a whole body, with its end
abbrev pub body_depths : BodyTree → List ℕ
body_depths body = block_depths body.statements ++ 0 ∷ []

-- How many operands a tree needs at most, beyond those that stand before it.
use Rattle.std.specs.Prelude.{ℕ, ◌+◌, max, List, [], ◌∷◌}
use Rattle.fmp_tasklang.specs.Trees.{ExpressionTree, number, named, element, unary, binary, both, either, StatementTree}
use Rattle.fmp_tasklang.specs.Trees.{assign, assign_element, service_call, if_then, if_else, while, break, continue}
use Rattle.fmp_tasklang.specs.Trees.{return, Block, empty, next, BodyTree}

-- the second operand of an operator is pushed on top of the first; those of `&&` and `||` are never there together
abbrev pub expression_depth : ExpressionTree → ℕ
expression_depth (number k) = 1
expression_depth (named w) = 1
expression_depth (element w e) = expression_depth e
expression_depth (unary op e) = expression_depth e
expression_depth (binary op a b) = max (expression_depth a) (expression_depth b + 1)
expression_depth (both a b) = max (expression_depth a) (expression_depth b)
expression_depth (either a b) = max (expression_depth a) (expression_depth b)

-- each argument of a call is pushed on top of those before it
abbrev pub arguments_depth : List ExpressionTree → ℕ
arguments_depth [] = 0
arguments_depth (e ∷ es) = max (expression_depth e) (arguments_depth es + 1)

-- a statement, and the statements of a block; the value of an element is pushed on top of its index
abbrev mutual
  pub statement_depth : StatementTree → ℕ
  statement_depth (assign w e) = expression_depth e
  statement_depth (assign_element w i e) = max (expression_depth i) (expression_depth e + 1)
  statement_depth (service_call c) = arguments_depth c.arguments
  statement_depth (if_then e s) = max (expression_depth e) (block_depth s)
  statement_depth (if_else e s r) = max (expression_depth e) (max (block_depth s) (block_depth r))
  statement_depth (while e s) = max (expression_depth e) (block_depth s)
  statement_depth break = 0
  statement_depth continue = 0
  statement_depth return = 0

  pub block_depth : Block → ℕ
  block_depth empty = 0
  block_depth (next s rest) = max (statement_depth s) (block_depth rest)

abbrev pub body_depth : BodyTree → ℕ
body_depth body = block_depth body.statements

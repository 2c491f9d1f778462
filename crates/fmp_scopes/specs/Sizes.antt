-- How many instructions a tree takes.
use Rattle.std.specs.Prelude.{ℕ, ◌+◌, List, [], ◌∷◌}
use Rattle.fmp_tasklang.specs.Trees.{ExpressionTree, number, named, element, unary, binary, both, either, StatementTree}
use Rattle.fmp_tasklang.specs.Trees.{assign, assign_element, service_call, if_then, if_else, while, break, continue}
use Rattle.fmp_tasklang.specs.Trees.{return, Block, empty, next, BodyTree}

abbrev pub expression_size : ExpressionTree → ℕ
expression_size (number k) = 1
expression_size (named w) = 1
expression_size (element w e) = expression_size e + 1
expression_size (unary op e) = expression_size e + 1
expression_size (binary op a b) = expression_size a + expression_size b + 1
expression_size (both a b) = expression_size a + expression_size b + 4
expression_size (either a b) = expression_size a + expression_size b + 4

-- the arguments of a call
abbrev pub arguments_size : List ExpressionTree → ℕ
arguments_size [] = 0
arguments_size (e ∷ es) = expression_size e + arguments_size es

-- a statement, and the statements of a block
abbrev mutual
  pub statement_size : StatementTree → ℕ
  statement_size (assign w e) = expression_size e + 1
  statement_size (assign_element w i e) = expression_size i + expression_size e + 1
  statement_size (service_call c) = arguments_size c.arguments + 1
  statement_size (if_then e s) = expression_size e + 1 + block_size s
  statement_size (if_else e s r) = expression_size e + 1 + block_size s + 1 + block_size r
  statement_size (while e s) = expression_size e + 1 + block_size s + 1
  statement_size break = 1
  statement_size continue = 1
  statement_size return = 1

  pub block_size : Block → ℕ
  block_size empty = 0
  block_size (next s rest) = statement_size s + block_size rest

-- the statements and the end
abbrev pub body_size : BodyTree → ℕ
body_size body = block_size body.statements + 1

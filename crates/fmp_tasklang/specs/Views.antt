-- The syntax trees without memory that the trees of the program stand for.
use Rattle.std.specs.Prelude.{List, [], ◌∷◌, map}
use Rattle.fmp_tasklang.specs.declared.trees.Operator.{Operator}
use Rattle.fmp_tasklang.specs.declared.trees.Operator.TheVariants as operator
use Rattle.fmp_tasklang.specs.declared.trees.Expression.{Expression, fold-Expression}
use Rattle.fmp_tasklang.specs.declared.trees.Expression.TheOpen.{Expression-F, Link-F}
use Rattle.fmp_tasklang.specs.declared.trees.Link.{Link, fold-Link}
use Rattle.fmp_tasklang.specs.declared.trees.ServiceCall.{ServiceCall}
use Rattle.fmp_tasklang.specs.declared.trees.Statement.{Statement, Row_of-Statement, end_of-Statement}
use Rattle.fmp_tasklang.specs.declared.trees.Statement.{more_of-Statement}
use Rattle.fmp_tasklang.specs.declared.trees.Statement.TheVariants.{Assign, AssignElement, Call, If', IfElse', While'}
use Rattle.fmp_tasklang.specs.declared.trees.Statement.TheVariants.{Break, Continue, Return}
use Rattle.fmp_tasklang.specs.declared.trees.Body.{Body}
use Rattle.fmp_tasklang.specs.declared.trees.Program.{Program}
use Rattle.fmp_tasklang.specs.Trees.{ExpressionTree, number, named, element, unary, binary, both, either, CallTree}
use Rattle.fmp_tasklang.specs.Trees.{StatementTree, assign, assign_element, service_call, if_then, if_else, while}
use Rattle.fmp_tasklang.specs.Trees.{break, continue, return, Block, empty, next, BodyTree}

-- an operator between two trees
abbrev pub join : Operator → ExpressionTree → ExpressionTree → ExpressionTree
join (operator.Binary op) a b = binary op a b
join operator.Both a b = both a b
join operator.Either a b = either a b

-- a further operand of a chain, with the operator before it
pub record LinkTree : Type 0 where
  pub operator : Operator
  pub operand : ExpressionTree

-- the tree of a chain whose first operand is this, grouped to the left
abbrev pub chain_tree : ExpressionTree → List LinkTree → ExpressionTree
chain_tree a [] = a
chain_tree a (l ∷ more) = chain_tree (join l.operator a l.operand) more

-- one level of an expression, with what it holds already seen as trees; likewise of a link
abbrev pub expression_step : Expression-F ExpressionTree LinkTree → ExpressionTree
expression_step (Expression-F.Number k) = number k
expression_step (Expression-F.Name w) = named w
expression_step (Expression-F.Element w e) = element w.value e.value
expression_step (Expression-F.Unary op e) = unary op e.value
expression_step (Expression-F.Chain a links) = chain_tree a.value links.items

abbrev pub link_step : Link-F ExpressionTree LinkTree → LinkTree
link_step l = record { operator = l.operator; operand = l.operand }

-- the tree of an expression
abbrev pub expression_view : Expression → ExpressionTree
expression_view = fold-Expression ExpressionTree LinkTree expression_step link_step

-- the tree of a link
abbrev pub link_view : Link → LinkTree
link_view = fold-Link ExpressionTree LinkTree expression_step link_step

-- the tree of a service call
abbrev pub call_view : ServiceCall → CallTree
call_view c =
    record {
      service = c.service;
      arguments = map expression_view c.arguments.items;
      out = c.receivers.out;
      result = c.receivers.result;
    }

-- a statement, and the statements of a block within it
abbrev mutual
  pub statement_view : Statement → StatementTree
  statement_view (Assign w e) = assign w (expression_view e)
  statement_view (AssignElement w i e) = assign_element w (expression_view i.value) (expression_view e.value)
  statement_view (Call c) = service_call (call_view c)
  statement_view (If' e m s) = if_then (expression_view e) (row_view s)
  statement_view (IfElse' e m s n r) = if_else (expression_view e.value) (row_view s) (row_view r)
  statement_view (While' e m s) = while (expression_view e) (row_view s)
  statement_view Break = break
  statement_view Continue = continue
  statement_view Return = return

  pub row_view : {m : _} → Row_of-Statement m → Block
  row_view end_of-Statement = empty
  row_view (more_of-Statement s rest) = next (statement_view s) (row_view rest)

-- the statements of a body, or of a block
abbrev pub block_view : List Statement → Block
block_view [] = empty
block_view (s ∷ ss) = next (statement_view s) (block_view ss)

-- the tree of a body
abbrev pub body_view : Body → BodyTree
body_view b =
    record {
      kind = b.kind;
      at = b.at;
      name = b.name;
      variables = b.variables.items;
      statements = block_view b.statements.items;
    }

-- the trees of the bodies of a text, in order
abbrev pub program_view : Program → List BodyTree
program_view p = map body_view p.bodies.items

-- The syntax trees of the task language, as data without memory.
use Rattle.std.specs.Prelude.{ℕ, ℤ, List, Option}
use Rattle.fmp_base.specs.declared.services.Service.{Service}
use Rattle.fmp_base.specs.declared.operators.UnaryOperator.{UnaryOperator}
use Rattle.fmp_base.specs.declared.operators.BinaryOperator.{BinaryOperator}
use Rattle.fmp_tasklang.specs.declared.trees.BodyKind.{BodyKind}
use Rattle.fmp_tasklang.specs.declared.trees.Declaration.{Declaration}
use Rattle.fmp_tasklang.specs.declared.trees.Word.{Word}

-- an expression
pub data ExpressionTree : Type 0 where
  number : ℤ → ExpressionTree
  named : Word → ExpressionTree
  element : Word → ExpressionTree → ExpressionTree
  unary : UnaryOperator → ExpressionTree → ExpressionTree
  binary : BinaryOperator → ExpressionTree → ExpressionTree → ExpressionTree
  both : ExpressionTree → ExpressionTree → ExpressionTree
  either : ExpressionTree → ExpressionTree → ExpressionTree

-- a service call: the arguments without the out place, the variable at it, the variable before `=`
pub record CallTree : Type 0 where
  pub service : Service
  pub arguments : List ExpressionTree
  pub out : Option Word
  pub result : Option Word

-- a statement, and the statements of a block
mutual
  pub data StatementTree : Type 0 where
    assign : Word → ExpressionTree → StatementTree
    assign_element : Word → ExpressionTree → ExpressionTree → StatementTree
    service_call : CallTree → StatementTree
    if_then : ExpressionTree → Block → StatementTree
    if_else : ExpressionTree → Block → Block → StatementTree
    while : ExpressionTree → Block → StatementTree
    break : StatementTree
    continue : StatementTree
    return : StatementTree

  pub data Block : Type 0 where
    empty : Block
    next : StatementTree → Block → Block

-- the body of a task or of a handler, and the place of its first token in the list
pub record BodyTree : Type 0 where
  pub kind : BodyKind
  pub at : ℕ
  pub name : Word
  pub variables : List Declaration
  pub statements : Block

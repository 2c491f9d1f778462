-- The greatest entry of a depth table is the depth of its tree.
use Rattle.std.proofs.Common.{◌≡◌, ℕ, ◌+◌, max, List, [], ◌∷◌, ◌++◌, length, refl, arith}
use Rattle.fmp_tasklang.specs.Trees.{ExpressionTree, number, named, element, unary, binary, both, either, StatementTree}
use Rattle.fmp_tasklang.specs.Trees.{assign, assign_element, service_call, if_then, if_else, while, break, continue}
use Rattle.fmp_tasklang.specs.Trees.{return, Block, empty, next, BodyTree}
use Rattle.fmp_scopes.specs.Depths.{expression_depth, arguments_depth, statement_depth, block_depth, body_depth}
use Rattle.fmp_scopes.specs.DepthTables.{expression_depths, arguments_depths, statement_depths, block_depths}
use Rattle.fmp_scopes.specs.DepthTables.{body_depths}
use Rattle.fmp_codegen.specs.Laws.{greatest}
use Rattle.fmp_scopes.proofs.LeastDepths.{one-le-expression_depth}

greatest-append : (a b : List ℕ) → greatest (a ++ b) ≡ max (greatest a) (greatest b)
greatest-append [] b = omega arith
greatest-append (d ∷ a) b = omega (arith, greatest-append a b)

-- an expression at d leaves d + 1
greatest-expression : (e : ExpressionTree) (d : ℕ) → max (greatest (expression_depths e d)) (d + 1) ≡ d
    + expression_depth e
greatest-expression (number k) d = omega arith
greatest-expression (named w) d = omega arith
greatest-expression (element w e) d =
    simp greatest-append (omega (arith, greatest-expression e d))
greatest-expression (unary op e) d =
    simp greatest-append (omega (arith, greatest-expression e d))
greatest-expression (binary op a b) d =
    simp greatest-append (omega (arith, greatest-expression a d, greatest-expression b (d + 1)))
greatest-expression (both a b) d =
    simp greatest-append (omega (arith, greatest-expression a d, greatest-expression b d))
greatest-expression (either a b) d =
    simp greatest-append (omega (arith, greatest-expression a d, greatest-expression b d))

greatest-arguments :
    (es : List ExpressionTree) (d : ℕ) →
    max (greatest (arguments_depths es d)) (d + length es) ≡ d + arguments_depth es
greatest-arguments [] d = omega arith
greatest-arguments (e ∷ es) d =
    simp greatest-append (omega (
      arith,
      greatest-expression e d,
      greatest-arguments es
          (d + 1),
      one-le-expression_depth e,
    ))

mutual
  greatest-statement : (s : StatementTree) → greatest (statement_depths s) ≡ statement_depth s
  greatest-statement (assign w e) =
      simp greatest-append (omega (arith, greatest-expression e 0))
  greatest-statement (assign_element w i e) =
      simp greatest-append (omega (arith, greatest-expression i 0, greatest-expression e 1))
  greatest-statement (service_call c) =
      simp greatest-append (omega (arith, greatest-arguments c.arguments 0))
  greatest-statement (if_then e s) =
      simp greatest-append (omega (arith, greatest-expression e 0, greatest-block s))
  greatest-statement (if_else e s r) =
      simp greatest-append (omega (arith, greatest-expression e 0, greatest-block s, greatest-block r))
  greatest-statement (while e s) =
      simp greatest-append (omega (arith, greatest-expression e 0, greatest-block s))
  greatest-statement break = refl
  greatest-statement continue = refl
  greatest-statement return = refl

  greatest-block : (b : Block) → greatest (block_depths b) ≡ block_depth b
  greatest-block empty = refl
  greatest-block (next s rest) = simp greatest-append (omega (arith, greatest-statement s, greatest-block rest))

pub greatest-body : (body : BodyTree) → greatest (body_depths body) ≡ body_depth body
greatest-body body = simp greatest-append (omega (arith, greatest-block body.statements))

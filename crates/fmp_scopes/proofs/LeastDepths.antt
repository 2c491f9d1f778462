-- How many operands a tree needs at least.
use Rattle.std.proofs.Common.{◌≤◌, List, [], ◌∷◌, length, arith}
use Rattle.fmp_tasklang.specs.Trees.{ExpressionTree, number, named, element, unary, binary, both, either}
use Rattle.fmp_scopes.specs.Depths.{expression_depth, arguments_depth}

pub one-le-expression_depth : (e : ExpressionTree) → 1 ≤ expression_depth e
one-le-expression_depth (number k) = omega arith
one-le-expression_depth (element w e) = one-le-expression_depth e
one-le-expression_depth (named w) = omega arith
one-le-expression_depth (unary op e) = one-le-expression_depth e
one-le-expression_depth (binary op a b) = omega arith
one-le-expression_depth (both a b) = omega (arith, one-le-expression_depth a)
one-le-expression_depth (either a b) = omega (arith, one-le-expression_depth a)

pub arguments-le-depth : (es : List ExpressionTree) → length es ≤ arguments_depth es
arguments-le-depth [] = omega arith
arguments-le-depth (e ∷ es) = omega (arith, arguments-le-depth es)

-- Expressions of a text in C.
use Rattle.std.specs.Prelude.{ℕ, List, [], ◌∷◌}
use Rattle.fmp_tasklang.specs.declared.trees.Operator.{Operator}
use Rattle.fmp_tasklang.specs.declared.trees.Operator.TheVariants as operator
use Rattle.fmp_tasklang.specs.Trees.{ExpressionTree, number, named, element, unary, binary, both, either}
use Rattle.fmp_tasklang.specs.Views.{LinkTree}
use Rattle.fmp_export.specs.Pieces.{PieceText, number_piece, name_piece, element_piece, unary_piece, binary_piece}
use Rattle.fmp_export.specs.Pieces.{both_piece, either_piece}
use Rattle.fmp_export.specs.Sources.{SourceText}
use Rattle.fmp_export.specs.Words.{c_name}

-- an expression whose numbers are those of the text from a place on: each operand goes on where the one before it ends
abbrev pub c_expression : SourceText → (at : ℕ) → ExpressionTree → PieceText
c_expression s at (number k) = number_piece s at k
c_expression s at (named w) = name_piece at (c_name w.name)
c_expression s at (element w e) = element_piece (c_name w.name) (c_expression s at e)
c_expression s at (unary op e) = unary_piece op (c_expression s at e)
c_expression s at (binary op a b) =
    binary_piece op (c_expression s at a) (c_expression s ((c_expression s at a).next) b)
c_expression s at (both a b) = both_piece (c_expression s at a) (c_expression s ((c_expression s at a).next) b)
c_expression s at (either a b) = either_piece (c_expression s at a) (c_expression s ((c_expression s at a).next) b)

-- expressions, one after another
abbrev pub c_expressions : SourceText → (at : ℕ) → List ExpressionTree → List PieceText
c_expressions s at [] = []
c_expressions s at (e ∷ es) = c_expression s at e ∷ c_expressions s ((c_expression s at e).next) es

-- an operator between two pieces
abbrev pub joined : Operator → PieceText → PieceText → PieceText
joined (operator.Binary op) a b = binary_piece op a b
joined operator.Both a b = both_piece a b
joined operator.Either a b = either_piece a b

-- a piece with the further operands of its chain
abbrev pub c_chain : SourceText → PieceText → List LinkTree → PieceText
c_chain s a [] = a
c_chain s a (l ∷ more) = c_chain s (joined l.operator a (c_expression s a.next l.operand)) more

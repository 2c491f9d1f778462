-- Expressions in C: the text of each, the faults that its evaluation may end with, whether an operator stands
-- outermost, and where the task text goes on after its numbers.
use Rattle.std.specs.Prelude.{ℕ, ℤ, pos, negsuc, List, ◌++◌, codes, drop, take, Bool, true, false, Option, Some, None}
use Rattle.std.specs.Fmt.{signed_decimal}
use Rattle.fmp_base.specs.declared.operators.UnaryOperator.{UnaryOperator}
use Rattle.fmp_base.specs.declared.operators.UnaryOperator.TheVariants as unary
use Rattle.fmp_base.specs.declared.operators.BinaryOperator.{BinaryOperator}
use Rattle.fmp_base.specs.declared.operators.BinaryOperator.TheVariants as binary
use Rattle.fmp_lex.specs.declared.token.Token.{Token}
use Rattle.fmp_export.specs.declared.pieces.Risk.{Risk}
use Rattle.fmp_export.specs.declared.pieces.Risk.TheVariants as risk
use Rattle.fmp_export.specs.declared.pieces.ExpressionShape.{ExpressionShape}
use Rattle.fmp_export.specs.declared.pieces.ExpressionShape.TheVariants as shape
use Rattle.fmp_export.specs.declared.pieces.Piece as declared
use Rattle.fmp_export.specs.declared.source.Landmark.TheVariants as landmark
use Rattle.fmp_export.specs.Sources.{SourceText, place_after, landmark_in}

pub record PieceText : Type 0 where
  pub text : List ℕ
  pub risk : Risk
  pub shape : ExpressionShape
  -- the place after the last number of the expression in the list of tokens, or where the expression was begun
  pub next : ℕ

-- what a `Piece` holds
abbrev pub piece_view : declared.Piece → PieceText
piece_view p = record { text = p.text.items; risk = p.risk; shape = p.shape; next = p.next }

-- the faults of two evaluations
abbrev pub joint_risk : Risk → Risk → Risk
joint_risk risk.Safe b = b
joint_risk a risk.Safe = a
joint_risk risk.Overflow risk.Overflow = risk.Overflow
joint_risk risk.Index risk.Index = risk.Index
joint_risk _ _ = risk.Several

-- which of two evaluations comes first can be seen: both may end the body, and not both by one fault
abbrev pub matters : Risk → Risk → Bool
matters risk.Safe b = false
matters a risk.Safe = false
matters risk.Overflow risk.Overflow = false
matters risk.Index risk.Index = false
matters _ _ = true

-- the piece as an operand of an operator
abbrev pub operand_of : ExpressionShape → List ℕ → List ℕ
operand_of shape.Open t = codes "(" ++ (t ++ codes ")")
operand_of shape.Closed t = t
operand_of shape.Number t = t

abbrev pub operand : PieceText → List ℕ
operand p = operand_of p.shape p.text

-- a number by its token, or by its value if it has none
abbrev pub token_text : (text : List ℕ) → Option Token → ℤ → List ℕ
token_text text (Some t) k = drop t.start (take t.end text)
token_text text None k = signed_decimal k

-- a number as it is written at the next number or constant from a place on
unfoldable pub number_text : SourceText → (at : ℕ) → ℤ → List ℕ
number_text s at k = token_text s.text (landmark_in landmark.Number (drop at s.tokens)) k

-- a number, or a constant by its value
abbrev pub number_shape : ℤ → ExpressionShape
number_shape (pos n) = shape.Number
number_shape (negsuc n) = shape.Closed

abbrev pub number_piece : SourceText → (at : ℕ) → ℤ → PieceText
number_piece s at k =
    record {
      text = number_text s at k;
      risk = risk.Safe;
      shape = number_shape k;
      next = place_after landmark.Number s at;
    }

-- a variable or an object of this name in C
abbrev pub name_piece : (at : ℕ) → List ℕ → PieceText
name_piece at name = record { text = name; risk = risk.Safe; shape = shape.Closed; next = at }

-- an element of the array of this name in C
unfoldable pub element_piece : List ℕ → PieceText → PieceText
element_piece name index =
    record {
      text = codes "fmp_at(" ++ (name ++ (codes ", " ++ (index.text ++ codes ")")));
      risk = joint_risk index.risk risk.Index;
      shape = shape.Closed;
      next = index.next;
    }

-- minus: of a number it is one in C too
abbrev pub negated : ExpressionShape → PieceText → PieceText
negated shape.Number p = record { text = codes "-" ++ p.text; risk = p.risk; shape = shape.Closed; next = p.next }
negated _ p =
    record {
      text = codes "fmp_neg(" ++ (p.text ++ codes ")");
      risk = joint_risk p.risk risk.Overflow;
      shape = shape.Closed;
      next = p.next;
    }

-- an operator of C before its operand
abbrev pub prefixed : List ℕ → PieceText → PieceText
prefixed sign p = record { text = sign ++ operand p; risk = p.risk; shape = shape.Open; next = p.next }

abbrev pub unary_by : UnaryOperator → PieceText → PieceText
unary_by unary.Negate p = negated p.shape p
unary_by unary.Not p = prefixed (codes "!") p
unary_by unary.Complement p = prefixed (codes "~") p

unfoldable pub unary_piece : UnaryOperator → PieceText → PieceText
unary_piece op p = unary_by op p

-- the function of an operator
abbrev pub function_of : BinaryOperator → List ℕ
function_of binary.Add = codes "fmp_add"
function_of binary.Subtract = codes "fmp_sub"
function_of binary.Multiply = codes "fmp_mul"
function_of binary.Divide = codes "fmp_div"
function_of binary.Remainder = codes "fmp_rem"
function_of binary.And = codes "fmp_and"
function_of binary.Or = codes "fmp_or"
function_of binary.ExclusiveOr = codes "fmp_xor"
function_of binary.Equal = codes "fmp_equal"
function_of binary.NotEqual = codes "fmp_not_equal"
function_of binary.Less = codes "fmp_less"
function_of binary.LessOrEqual = codes "fmp_less_or_equal"
function_of binary.Greater = codes "fmp_greater"
function_of binary.GreaterOrEqual = codes "fmp_greater_or_equal"

-- the operator of C that does the same, if there is one
abbrev pub sign_of : BinaryOperator → Option (List ℕ)
sign_of binary.Add = None
sign_of binary.Subtract = None
sign_of binary.Multiply = None
sign_of binary.Divide = None
sign_of binary.Remainder = None
sign_of binary.And = Some (codes " & ")
sign_of binary.Or = Some (codes " | ")
sign_of binary.ExclusiveOr = Some (codes " ^ ")
sign_of binary.Equal = Some (codes " == ")
sign_of binary.NotEqual = Some (codes " != ")
sign_of binary.Less = Some (codes " < ")
sign_of binary.LessOrEqual = Some (codes " <= ")
sign_of binary.Greater = Some (codes " > ")
sign_of binary.GreaterOrEqual = Some (codes " >= ")

-- the faults of an operator itself
abbrev pub risk_of : BinaryOperator → Risk
risk_of binary.Add = risk.Overflow
risk_of binary.Subtract = risk.Overflow
risk_of binary.Multiply = risk.Overflow
risk_of binary.Divide = risk.Several
risk_of binary.Remainder = risk.Several
risk_of _ = risk.Safe

-- an operator of C between its operands
abbrev pub infixed : List ℕ → PieceText → PieceText → PieceText
infixed sign a b =
    record {
      text = operand a ++ (sign ++ operand b);
      risk = joint_risk a.risk b.risk;
      shape = shape.Open;
      next = b.next;
    }

-- what stands before the arguments of the function of an operator
abbrev pub front_of : (ordered : Bool) → List ℕ → List ℕ
front_of true function = codes "fmp_ordered(" ++ (function ++ codes ", ")
front_of false function = function ++ codes "("

abbrev pub arguments_of : PieceText → PieceText → List ℕ
arguments_of a b = a.text ++ (codes ", " ++ (b.text ++ codes ")"))

-- the function of an operator, called
abbrev pub applied : (ordered : Bool) → BinaryOperator → PieceText → PieceText → PieceText
applied ordered op a b =
    record {
      text = front_of ordered (function_of op) ++ arguments_of a b;
      risk = joint_risk (joint_risk a.risk b.risk) (risk_of op);
      shape = shape.Closed;
      next = b.next;
    }

-- C leaves open which argument of a function, or operand of an operator, is evaluated first; `fmp_ordered` does not
abbrev pub binary_by : (ordered : Bool) → Option (List ℕ) → BinaryOperator → PieceText → PieceText → PieceText
binary_by true sign op a b = applied true op a b
binary_by false None op a b = applied false op a b
binary_by false (Some sign) op a b = infixed sign a b

unfoldable pub binary_piece : BinaryOperator → PieceText → PieceText → PieceText
binary_piece op a b = binary_by (matters a.risk b.risk) (sign_of op) op a b

-- `&&` and `||`, which C evaluates as the text does
unfoldable pub both_piece : PieceText → PieceText → PieceText
both_piece a b = infixed (codes " && ") a b

unfoldable pub either_piece : PieceText → PieceText → PieceText
either_piece a b = infixed (codes " || ") a b

-- The grammar of expressions: which tokens, from one place up to another, spell which tree.
use Rattle.std.specs.Prelude.{◌≡◌, ℕ, ◌+◌, ℤ, List, [], ◌∷◌, Option, Some, None}
use Rattle.fmp_base.specs.declared.names.Name.{Name}
use Rattle.fmp_base.specs.declared.operators.BinaryOperator.TheVariants as binary
use Rattle.fmp_base.specs.declared.operators.UnaryOperator.{UnaryOperator}
use Rattle.fmp_base.specs.declared.operators.UnaryOperator.TheVariants as unary
use Rattle.fmp_lex.specs.declared.token.Symbol.TheVariants as symbol
use Rattle.fmp_lex.specs.declared.token.TokenKind.{TokenKind}
use Rattle.fmp_lex.specs.declared.token.TokenKind.TheVariants as kind
use Rattle.fmp_lex.specs.Reading.{Allows, IsToken, IsItem}
use Rattle.fmp_base.specs.Words.{constant_value}
use Rattle.fmp_tasklang.specs.declared.trees.Operator.{Operator}
use Rattle.fmp_tasklang.specs.declared.trees.Operator.TheVariants as operator
use Rattle.fmp_tasklang.specs.declared.trees.Word.{Word}
use Rattle.fmp_tasklang.specs.Trees.{ExpressionTree, number, named, element, unary}
use Rattle.fmp_tasklang.specs.Views.{LinkTree, chain_tree}

-- the number that a token stands for: a constant is its value
abbrev pub token_number : TokenKind → Option ℤ
token_number (kind.Number n) = Some n
token_number (kind.Constant c) = Some (constant_value c)
token_number _ = None

-- the name that a token is; words are none
abbrev pub name_of : TokenKind → Option Name
name_of (kind.Name n) = Some n
name_of _ = None

-- the operator that a token is before an operand
abbrev pub unary_of : TokenKind → Option UnaryOperator
unary_of (kind.Symbol symbol.Minus) = Some unary.Negate
unary_of (kind.Symbol symbol.Not) = Some unary.Not
unary_of (kind.Symbol symbol.Tilde) = Some unary.Complement
unary_of _ = None

-- the operator that a token is between operands, and its level: 0 binds tightest
abbrev pub operator_of : TokenKind → Option (ℕ × Operator)
operator_of (kind.Symbol symbol.Star) = Some (0, operator.Binary binary.Multiply)
operator_of (kind.Symbol symbol.Slash) = Some (0, operator.Binary binary.Divide)
operator_of (kind.Symbol symbol.Percent) = Some (0, operator.Binary binary.Remainder)
operator_of (kind.Symbol symbol.Plus) = Some (1, operator.Binary binary.Add)
operator_of (kind.Symbol symbol.Minus) = Some (1, operator.Binary binary.Subtract)
operator_of (kind.Symbol symbol.Less) = Some (2, operator.Binary binary.Less)
operator_of (kind.Symbol symbol.LessEqual) = Some (2, operator.Binary binary.LessOrEqual)
operator_of (kind.Symbol symbol.Greater) = Some (2, operator.Binary binary.Greater)
operator_of (kind.Symbol symbol.GreaterEqual) = Some (2, operator.Binary binary.GreaterOrEqual)
operator_of (kind.Symbol symbol.Equal) = Some (3, operator.Binary binary.Equal)
operator_of (kind.Symbol symbol.NotEqual) = Some (3, operator.Binary binary.NotEqual)
operator_of (kind.Symbol symbol.And) = Some (4, operator.Binary binary.And)
operator_of (kind.Symbol symbol.Xor) = Some (5, operator.Binary binary.ExclusiveOr)
operator_of (kind.Symbol symbol.Or) = Some (6, operator.Binary binary.Or)
operator_of (kind.Symbol symbol.AndAnd) = Some (7, operator.Both)
operator_of (kind.Symbol symbol.OrOr) = Some (8, operator.Either)
operator_of _ = None

-- above the levels of all operators
abbrev pub loosest : ℕ
loosest = 9

-- the name at i, with that place
abbrev pub IsWord : List TokenKind → ℕ → Word → ℕ → Type 0
IsWord ts i w j = (w.at ≡ i) × IsItem name_of ts i w.name j

-- a name as an operand, and the element of an array where an index stands after the name
abbrev pub reference : Word → Option ExpressionTree → ExpressionTree
reference w None = named w
reference w (Some index) = element w index

-- d is how many levels of nesting are open before the first token
module _ (ts : List TokenKind) (limit : ℕ) where
  mutual
    -- a number, a constant, a name with or without an index, an expression in parentheses, or an operand after a
    -- unary operator
    pub data IsOperand : ℕ → ℕ → ExpressionTree → ℕ → Type 0 where
      a_number : {d i j : ℕ} {n : ℤ} → IsItem token_number ts i n j → IsOperand d i (number n) j
      a_name : {d i a j : ℕ} {w : Word} {index : Option ExpressionTree} {e : ExpressionTree} → IsWord ts i w a
          → IsIndex d a index j → e ≡ reference w index → IsOperand d i e j
      a_group : {d i a b j : ℕ} {e : ExpressionTree} → Allows limit i d
          → IsToken ts (kind.Symbol symbol.LeftParen) i a →
          IsExpression (d + 1) loosest a e b → IsToken ts (kind.Symbol symbol.RightParen) b j → IsOperand d i e j
      a_unary : {d i a j : ℕ} {op : UnaryOperator} {e : ExpressionTree} → Allows limit i d → IsItem unary_of ts i op a
          →
          IsOperand (d + 1) a e j → IsOperand d i (unary op e) j

    -- nothing, or [ expr ]
    pub data IsIndex : ℕ → ℕ → Option ExpressionTree → ℕ → Type 0 where
      no_index : {d i : ℕ} → IsIndex d i None i
      an_index : {d i a b j : ℕ} {e : ExpressionTree} → Allows limit i d
          → IsToken ts (kind.Symbol symbol.LeftBracket) i a →
          IsExpression (d + 1) loosest a e b → IsToken ts (kind.Symbol symbol.RightBracket) b j → IsIndex d i (Some e) j

    -- operands with operators between them whose levels are below l; those of one level are grouped to the left
    pub data IsExpression : ℕ → ℕ → ℕ → ExpressionTree → ℕ → Type 0 where
      an_operand : {d l i j : ℕ} {e : ExpressionTree} → l ≡ 0 → IsOperand d i e j → IsExpression d l i e j
      a_chain : {d l m i a j : ℕ} {first e : ExpressionTree} {links : List LinkTree} → l ≡ m + 1
          → IsExpression d m i first a →
          AreLinks d m a links j → e ≡ chain_tree first links → IsExpression d l i e j

    -- operators of the level m, each with an operand after it
    pub data AreLinks : ℕ → ℕ → ℕ → List LinkTree → ℕ → Type 0 where
      no_link : {d m i : ℕ} → AreLinks d m i [] i
      a_link : {d m i a b j : ℕ} {l : LinkTree} {links : List LinkTree} → IsItem operator_of ts i (m, l.operator) a →
          IsExpression d m a l.operand b → AreLinks d m b links j → AreLinks d m i (l ∷ links) j

-- Laws of views, of the grammar and of stretches.
use Rattle.std.specs.Prelude.{◌≡◌, ℕ, zero, suc, ◌≤◌, List, map, true, false, None}
use Rattle.std.specs.Box.{box_value}
use Rattle.std.specs.declared.alloc.Global.{Global}
use Rattle.std.specs.declared.vec.Vec.{Vec}
use Rattle.std.specs.Global.{Box}
use Rattle.fmp_base.specs.declared.operators.UnaryOperator.{UnaryOperator}
use Rattle.fmp_lex.specs.declared.token.TokenKind.{TokenKind}
use Rattle.fmp_lex.specs.Reading.{IsWhole}
use Rattle.fmp_tasklang.specs.declared.trees.Expression.{Expression, Element, Unary, Chain}
use Rattle.fmp_tasklang.specs.declared.trees.Link.{Link}
use Rattle.fmp_tasklang.specs.declared.trees.Statement.{Statement, If, IfElse, While}
use Rattle.fmp_tasklang.specs.declared.trees.Word.{Word}
use Rattle.fmp_tasklang.specs.Trees.{element, unary, if_then, if_else, while, BodyTree}
use Rattle.fmp_tasklang.specs.Grammar.{Bodies}
use Rattle.fmp_tasklang.specs.Views.{chain_tree, expression_view, link_view, statement_view, block_view}
use Rattle.fmp_tasklang.specs.Scopes.{Scope}
use Rattle.fmp_tasklang.specs.Contexts.{Item, TextContext}
use Rattle.fmp_tasklang.specs.Values.{Values}
use Rattle.fmp_base.specs.Stretches.{is_over}
use Rattle.fmp_base.specs.Stretches as ends
use Rattle.fmp_tasklang.specs.Stretches.{Way, after_item, follow, out_of_turns, turns, stretch}

-- the view of a tree is made of the views of what its boxes and vectors hold
pub record ViewsOfParts : Type 0 where
  pub array_element :
      (w : Box Word) (e : Box Expression) →
      expression_view (Element w e) ≡ element (box_value w) (expression_view (box_value e))
  pub unary_operator :
      (op : UnaryOperator) (e : Box Expression) →
      expression_view (Unary op e) ≡ unary op (expression_view (box_value e))
  pub chain :
      (first : Box Expression) (links : Vec Link Global) →
      expression_view (Chain first links) ≡ chain_tree (expression_view (box_value first)) (map link_view links.items)
  pub link : (l : Link) → link_view l ≡ record { operator = l.operator; operand = expression_view l.operand }
  pub if_statement :
      (e : Expression) (s : Vec Statement Global) →
      statement_view (If e s) ≡ if_then (expression_view e) (block_view s.items)
  pub if_else_statement :
      (e : Box Expression) (s r : Vec Statement Global) →
      statement_view (IfElse e s r) ≡ if_else (expression_view (box_value e)) (block_view s.items) (block_view r.items)
  pub while_statement :
      (e : Expression) (s : Vec Statement Global) →
      statement_view (While e s) ≡ while (expression_view e) (block_view s.items)

-- a stretch that is not over its bound is the same at every greater bound
abbrev pub MoreTurnsChangeNothing : Type 0
MoreTurnsChangeNothing =
    (scope : Scope) (c : TextContext) (low high : ℕ) →
    low ≤ high →
    is_over (stretch scope low c) ≡ false →
    stretch scope high c ≡ stretch scope low c

-- a stretch that is over its bound hands over nothing
abbrev pub HandsOverNothing : Type 0
HandsOverNothing =
    (scope : Scope) (t : ℕ) (c : TextContext) →
    is_over (stretch scope t c) ≡ true →
    stretch scope t c ≡ ends.Over None

-- what follows a turn where t turns were left before it
abbrev pub after_turn : Scope → ℕ → Way
after_turn scope zero locals todo = out_of_turns locals todo
after_turn scope (suc t) locals todo = turns scope t locals todo

-- every item is followed, however many come before the next mark: the turns alone are bounded
abbrev pub FollowsEachItem : Type 0
FollowsEachItem =
    (scope : Scope) (t : ℕ) (locals : Values) (todo : List Item) →
    turns scope t locals todo ≡ follow (after_turn scope t) (turns scope t) (after_item scope locals todo)

-- a list of tokens spells at most one program
abbrev pub SpellsOneProgram : Type 0
SpellsOneProgram =
    (ts : List TokenKind) (a b : List BodyTree) → IsWhole Bodies ts a → IsWhole Bodies ts b
    → b ≡ a

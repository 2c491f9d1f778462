-- The grammar of statements and blocks.
use Rattle.std.specs.Prelude.{◌≡◌, ℕ, ◌+◌, Bool, true, List, [], ◌∷◌, Option, Some, None}
use Rattle.fmp_lex.specs.declared.token.Symbol.TheVariants as symbol
use Rattle.fmp_lex.specs.declared.token.TokenKind.{TokenKind}
use Rattle.fmp_lex.specs.declared.token.TokenKind.TheVariants as kind
use Rattle.fmp_base.specs.declared.words.Keyword.TheVariants as keyword
use Rattle.fmp_lex.specs.Reading.{Allows, IsToken, IsItem}
use Rattle.fmp_tasklang.specs.declared.trees.Word.{Word}
use Rattle.fmp_tasklang.specs.Trees.{ExpressionTree, StatementTree, assign, assign_element, service_call, while, break}
use Rattle.fmp_tasklang.specs.Trees.{continue, return, Block}
use Rattle.fmp_tasklang.specs.Blocks.{block_of, choice}
use Rattle.fmp_tasklang.specs.Expressions.{loosest, IsWord, IsExpression}
use Rattle.fmp_tasklang.specs.Calls.{Called, call_tree, OneCall}

-- the jump that a token is, in a loop or outside
abbrev pub jump_of : Bool → TokenKind → Option StatementTree
jump_of true (kind.Keyword keyword.Break) = Some break
jump_of true (kind.Keyword keyword.Continue) = Some continue
jump_of _ (kind.Keyword keyword.Return) = Some return
jump_of _ _ = None

module _ (ts : List TokenKind) (limit : ℕ) where
  -- ( expr )
  abbrev pub IsCondition : ℕ → ℕ → ExpressionTree → ℕ → Type 0
  IsCondition d i e j =
      (a : ℕ) × IsToken ts (kind.Symbol symbol.LeftParen) i a ×
      ((b : ℕ) × IsExpression ts limit d loosest a e b × IsToken ts (kind.Symbol symbol.RightParen) b j)

  -- [ expr ], where the brackets open a level
  abbrev pub IsBracketed : ℕ → ℕ → ExpressionTree → ℕ → Type 0
  IsBracketed d i e j =
      Allows limit i d ×
      ((a : ℕ) × IsToken ts (kind.Symbol symbol.LeftBracket) i a ×
      ((b : ℕ) × IsExpression ts limit (d + 1) loosest a e b × IsToken ts (kind.Symbol symbol.RightBracket) b j))

  -- [name =]
  abbrev pub IsResult : ℕ → Option Word → ℕ → Type 0
  IsResult i None j = j ≡ i
  IsResult i (Some w) j = (a : ℕ) × IsWord ts i w a × IsToken ts (kind.Symbol symbol.Assign) a j

  -- d is how many levels of nesting are open, and `loop` whether a loop is
  mutual
    -- name = expr ; | name [ expr ] = expr ; | [name =] call ; | return ; | in a loop break ; and continue ; | if |
    -- while ( expr ) block
    pub data IsStatement : ℕ → Bool → ℕ → StatementTree → ℕ → Type 0 where
      an_assignment : {d i b j : ℕ} {loop : Bool} {w : Word} {e : ExpressionTree} (a : ℕ) → IsResult i (Some w) a →
          IsExpression ts limit d loosest a e b → IsToken ts (kind.Symbol symbol.Semicolon) b j
          → IsStatement d loop i (assign w e) j
      an_element_assignment : {d i b c k j : ℕ} {loop : Bool} {w : Word} {index e : ExpressionTree} (a : ℕ)
          → IsWord ts i w a → IsBracketed d a index b → IsToken ts (kind.Symbol symbol.Assign) b c →
          IsExpression ts limit d loosest c e k → IsToken ts (kind.Symbol symbol.Semicolon) k j
          → IsStatement d loop i (assign_element w index e) j
      a_call : {d i j : ℕ} {loop : Bool} {s : StatementTree} (r : Option Word) (a : ℕ) (c : Called) (b : ℕ)
          → IsResult i r a →
          OneCall d ts limit a c b → IsToken ts (kind.Symbol symbol.Semicolon) b j
          → s ≡ service_call (call_tree r c) →
          IsStatement d loop i s j
      a_jump : {d i a j : ℕ} {loop : Bool} {s : StatementTree} → IsItem (jump_of loop) ts i s a →
          IsToken ts (kind.Symbol symbol.Semicolon) a j → IsStatement d loop i s j
      an_if : {d i j : ℕ} {loop : Bool} {s : StatementTree} → IsIf d loop i s j → IsStatement d loop i s j
      a_while : {d i a b j : ℕ} {loop : Bool} {e : ExpressionTree} {body : Block}
          → IsToken ts (kind.Keyword keyword.While) i a →
          IsCondition d a e b → IsBlock d true b body j → IsStatement d loop i (while e body) j

    -- if ( expr ) block [else]
    pub data IsIf : ℕ → Bool → ℕ → StatementTree → ℕ → Type 0 where
      if_chosen : {d i a b c j : ℕ} {loop : Bool} {e : ExpressionTree} {body : Block} {other : Option Block}
          {s : StatementTree} →
          IsToken ts (kind.Keyword keyword.If) i a → IsCondition d a e b → IsBlock d loop b body c
          → IsElse d loop c other j →
          s ≡ choice e body other → IsIf d loop i s j

    -- nothing, or `else` with a block or another `if`
    pub data IsElse : ℕ → Bool → ℕ → Option Block → ℕ → Type 0 where
      no_else : {d i : ℕ} {loop : Bool} → IsElse d loop i None i
      an_else : {d i a j : ℕ} {loop : Bool} {body : Block} → IsToken ts (kind.Keyword keyword.Else) i a
          → IsOther d loop a body j →
          IsElse d loop i (Some body) j

    -- block | if; the `if` opens a level that is open to its end
    pub data IsOther : ℕ → Bool → ℕ → Block → ℕ → Type 0 where
      a_block : {d i j : ℕ} {loop : Bool} {body : Block} → IsBlock d loop i body j → IsOther d loop i body j
      another_if : {d i j : ℕ} {loop : Bool} {s : StatementTree} {body : Block} → Allows limit i d
          → IsIf (d + 1) loop i s j →
          body ≡ block_of (s ∷ []) → IsOther d loop i body j

    -- { {stmt} }
    pub data IsBlock : ℕ → Bool → ℕ → Block → ℕ → Type 0 where
      braces : {d i a b j : ℕ} {loop : Bool} {ss : List StatementTree} {body : Block} → Allows limit i d →
          IsToken ts (kind.Symbol symbol.LeftBrace) i a → AreStatements (d + 1) loop a ss b →
          IsToken ts (kind.Symbol symbol.RightBrace) b j → body ≡ block_of ss → IsBlock d loop i body j

    -- {stmt}
    pub data AreStatements : ℕ → Bool → ℕ → List StatementTree → ℕ → Type 0 where
      no_statement : {d i : ℕ} {loop : Bool} → AreStatements d loop i [] i
      a_statement : {d i a j : ℕ} {loop : Bool} {s : StatementTree} {ss : List StatementTree} → IsStatement d loop i s a
          →
          AreStatements d loop a ss j → AreStatements d loop i (s ∷ ss) j

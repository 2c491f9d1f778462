-- When the answers of the readers of a task text are right.
use Rattle.std.specs.Prelude.{◌≡◌, ℕ, ◌+◌, ◌≤◌, Bool, List, map, slice_get, Option, Some, None, option_and_then, Result}
use Rattle.std.specs.Prelude.{Ok, Err}
use Rattle.std.specs.declared.vec.Vec.{Vec}
use Rattle.std.specs.declared.alloc.Global.{Global}
use Rattle.fmp_lex.specs.declared.fault.BuildFault.{BuildFault}
use Rattle.fmp_lex.specs.declared.fault.BuildFault.TheVariants as build
use Rattle.fmp_lex.specs.declared.fault.TextFile.TheVariants as file
use Rattle.fmp_lex.specs.declared.reading.ReadError.{ReadError}
use Rattle.fmp_lex.specs.declared.reading.ReadError.TheVariants as errors
use Rattle.fmp_lex.specs.declared.token.Symbol.TheVariants as symbol
use Rattle.fmp_lex.specs.declared.token.Token.{Token}
use Rattle.fmp_lex.specs.declared.token.TokenKind.{TokenKind}
use Rattle.fmp_lex.specs.declared.token.TokenKind.TheVariants as kind
use Rattle.fmp_base.specs.declared.words.Keyword.TheVariants as keyword
use Rattle.fmp_lex.specs.Faults.{Spells, IsSyntaxFault}
use Rattle.fmp_lex.specs.Reading.{Rel, At, IsToken, IsItem, Item, Star, ParseResult, Right, Anywhere, IsWhole}
use Rattle.fmp_lex.specs.Reading.{IsFirstFault}
use Rattle.fmp_base.specs.declared.services.Service.{Service}
use Rattle.fmp_tasklang.specs.declared.calls.Argument.{Argument}
use Rattle.fmp_tasklang.specs.declared.calls.Argument.TheVariants as argument
use Rattle.fmp_tasklang.specs.declared.forms.CallPart.{CallPart}
use Rattle.fmp_tasklang.specs.declared.statements.Change.{Change}
use Rattle.fmp_tasklang.specs.declared.statements.Change.TheVariants as change
use Rattle.fmp_tasklang.specs.declared.statements.ElementChange.{ElementChange}
use Rattle.fmp_tasklang.specs.declared.statements.GivenValue.{GivenValue}
use Rattle.fmp_tasklang.specs.declared.statements.GivenValue.TheVariants as given
use Rattle.fmp_tasklang.specs.declared.trees.Body.{Body}
use Rattle.fmp_tasklang.specs.declared.trees.Declaration.{Declaration}
use Rattle.fmp_tasklang.specs.declared.trees.Expression.{Expression}
use Rattle.fmp_tasklang.specs.declared.trees.Length.{Length}
use Rattle.fmp_tasklang.specs.declared.trees.Link.{Link}
use Rattle.fmp_tasklang.specs.declared.trees.Operator.{Operator}
use Rattle.fmp_tasklang.specs.declared.trees.Program.{Program}
use Rattle.fmp_tasklang.specs.declared.trees.ServiceCall.{ServiceCall}
use Rattle.fmp_tasklang.specs.declared.trees.Statement.{Statement}
use Rattle.fmp_tasklang.specs.declared.trees.Word.{Word}
use Rattle.fmp_tasklang.specs.Trees.{ExpressionTree, StatementTree, assign, assign_element, service_call, Block}
use Rattle.fmp_tasklang.specs.Trees.{BodyTree}
use Rattle.fmp_tasklang.specs.Views.{LinkTree, expression_view, link_view, statement_view, body_view, program_view}
use Rattle.fmp_tasklang.specs.Blocks.{block_of}
use Rattle.fmp_tasklang.specs.Expressions.{operator_of, loosest, IsWord, IsOperand, IsIndex, IsExpression}
use Rattle.fmp_tasklang.specs.Calls.{ArgumentTree, value, out, Called, called, call_tree, OnePart, Parts, OneCall}
use Rattle.fmp_tasklang.specs.Statements.{jump_of, IsBracketed, IsCondition, IsStatement, IsIf, IsElse, IsOther}
use Rattle.fmp_tasklang.specs.Statements.{IsBlock}
use Rattle.fmp_tasklang.specs.Grammar.{body_kind_of, number_of, OneLength, OneVariable, OneBody, Bodies}

abbrev pub itself : {A : Type 0} → A → A
itself a = a

-- no `[` follows
abbrev pub EndsOperand : List TokenKind → ℕ → Type 0
EndsOperand ts j = slice_get ts j ≡ Some (kind.Symbol symbol.LeftBracket) → ⊥

-- no `[` follows, and no operator that binds tighter than l
abbrev pub EndsExpression : ℕ → List TokenKind → ℕ → Type 0
EndsExpression l ts j =
    EndsOperand ts j
    × ((m : ℕ) (op : Operator) → option_and_then operator_of (slice_get ts j) ≡ Some (m, op) → l ≤ m)

-- no `else` follows
abbrev pub EndsElse : List TokenKind → ℕ → Type 0
EndsElse ts j = slice_get ts j ≡ Some (kind.Keyword keyword.Else) → ⊥

-- `}` follows
abbrev pub EndsStatements : List TokenKind → ℕ → Type 0
EndsStatements ts j = slice_get ts j ≡ Some (kind.Symbol symbol.RightBrace)

-- no `var` follows
abbrev pub EndsVariables : List TokenKind → ℕ → Type 0
EndsVariables ts j = slice_get ts j ≡ Some (kind.Keyword keyword.Var) → ⊥

-- no body follows
abbrev pub EndsBodies : List TokenKind → ℕ → Type 0
EndsBodies ts j = option_and_then body_kind_of (slice_get ts j) ≡ None

-- what stands after `name =`: an expression or a call
pub data SourceTree : Type 0 where
  by_value : ExpressionTree → SourceTree
  by_call : Called → SourceTree

-- the statement that stores it
abbrev pub assigned : Word → SourceTree → StatementTree
assigned w (by_value e) = assign w e
assigned w (by_call c) = service_call (call_tree (Some w) c)

-- what stands after the name with which an assignment begins: `=` and a source, or an index, `=` and an expression
pub data ChangeTree : Type 0 where
  to_variable : SourceTree → ChangeTree
  to_element : ExpressionTree × ExpressionTree → ChangeTree

-- the statement of both
abbrev pub changed : Word → ChangeTree → StatementTree
changed w (to_variable r) = assigned w r
changed w (to_element p) = assign_element w p.0 p.1

-- a jump and `;`
abbrev pub Jump : Bool → Rel StatementTree
Jump loop ts limit i s j = (a : ℕ) × IsItem (jump_of loop) ts i s a × IsToken ts (kind.Symbol symbol.Semicolon) a j

abbrev pub RightJump : List TokenKind → Bool → ℕ → ParseResult StatementTree → Type 0
RightJump ts loop i = Right (At (Jump loop) i) Anywhere ts i

-- the relations of the grammar as readings
abbrev pub OneWord : Rel Word
OneWord ts limit i w j = IsWord ts i w j

-- the number of places in a declaration, with its place
abbrev pub OneCount : Rel Length
OneCount ts limit i l j = (l.at ≡ i) × IsItem number_of ts i l.places j

module _ (d : ℕ) where
  abbrev pub OneOperand : Rel ExpressionTree
  OneOperand ts limit i e j = IsOperand ts limit d i e j

  abbrev pub OneIndex : Rel (Option ExpressionTree)
  OneIndex ts limit i o j = IsIndex ts limit d i o j

  abbrev pub Bracketed : Rel ExpressionTree
  Bracketed ts limit i e j = IsBracketed ts limit d i e j

  abbrev pub OneExpression : ℕ → Rel ExpressionTree
  OneExpression l ts limit i e j = IsExpression ts limit d l i e j

  -- an operator of the level m, and the operand after it
  abbrev pub OneLink : ℕ → Rel LinkTree
  OneLink m ts limit i l j =
      (a : ℕ) × Item operator_of ts limit i (m, l.operator) a × IsExpression ts limit d m a l.operand j

  abbrev pub Condition : Rel ExpressionTree
  Condition ts limit i e j = IsCondition ts limit d i e j

  -- the parts of the call of a service, and the call
  abbrev pub Arguments : Service → List CallPart → Rel Called
  Arguments s ps ts limit i c j = (args : List ArgumentTree) × (c ≡ called s args) × Parts d ps ts limit i args j

  -- expr | call
  abbrev pub OneSource : Rel SourceTree
  OneSource ts limit i (by_value e) j = IsExpression ts limit d loosest i e j
  OneSource ts limit i (by_call c) j = OneCall d ts limit i c j

  -- = source ;
  abbrev pub OneVariableChange : Rel SourceTree
  OneVariableChange ts limit i r j =
      (a : ℕ)
      × IsToken ts (kind.Symbol symbol.Assign) i a
      × ((b : ℕ) × OneSource ts limit a r b × IsToken ts (kind.Symbol symbol.Semicolon) b j)

  -- [ expr ] = expr ;
  abbrev pub OneElementChange : Rel (ExpressionTree × ExpressionTree)
  OneElementChange ts limit i p j =
      (a : ℕ)
      × IsBracketed ts limit d i p.0 a
      × ((b : ℕ) × IsToken ts (kind.Symbol symbol.Assign) a b
      × ((c : ℕ) × IsExpression ts limit d loosest b p.1 c × IsToken ts (kind.Symbol symbol.Semicolon) c j))

  abbrev pub OneChange : Rel ChangeTree
  OneChange ts limit i (to_variable r) j = OneVariableChange ts limit i r j
  OneChange ts limit i (to_element p) j = OneElementChange ts limit i p j

  -- name = source ; | name [ expr ] = expr ;
  abbrev pub Assignment : Rel StatementTree
  Assignment ts limit i s j =
      (w : Word)
      × (c : ChangeTree)
      × (s ≡ changed w c)
      × (a : ℕ) × IsWord ts i w a × OneChange ts limit a c j

  -- call ;
  abbrev pub PlainCall : Rel StatementTree
  PlainCall ts limit i s j =
      (c : Called)
      × (s ≡ service_call (call_tree None c))
      × (a : ℕ) × OneCall d ts limit i c a × IsToken ts (kind.Symbol symbol.Semicolon) a j

  module _ (loop : Bool) where
    abbrev pub OneStatement : Rel StatementTree
    OneStatement ts limit i s j = IsStatement ts limit d loop i s j

    abbrev pub OneIf : Rel StatementTree
    OneIf ts limit i s j = IsIf ts limit d loop i s j

    abbrev pub Else : Rel (Option Block)
    Else ts limit i o j = IsElse ts limit d loop i o j

    abbrev pub Other : Rel Block
    Other ts limit i b j = IsOther ts limit d loop i b j

    abbrev pub OneBlock : Rel Block
    OneBlock ts limit i b j = IsBlock ts limit d loop i b j

-- when the outcome of reading from i on is right
module _ (ts : List TokenKind) where
  abbrev pub RightWord : ℕ → ParseResult Word → Type 0
  RightWord i = Right (At OneWord i) Anywhere ts i

  abbrev pub RightCount : ℕ → ParseResult Length → Type 0
  RightCount i = Right (At OneCount i) Anywhere ts i

  abbrev pub RightLength : ℕ → ParseResult (Option Length) → Type 0
  RightLength i = Right (At OneLength i) EndsOperand ts i

  abbrev pub RightVariable : ℕ → ParseResult Declaration → Type 0
  RightVariable i = Right (At OneVariable i) Anywhere ts i

  abbrev pub RightVariables : ℕ → ParseResult (List Declaration) → Type 0
  RightVariables i = Right (At (Star OneVariable) i) EndsVariables ts i

  abbrev pub RightBody : ℕ → ParseResult BodyTree → Type 0
  RightBody i = Right (At OneBody i) Anywhere ts i

  abbrev pub RightBodies : ℕ → ParseResult (List BodyTree) → Type 0
  RightBodies i = Right (At Bodies i) EndsBodies ts i

  module _ (d : ℕ) where
    abbrev pub RightOperand : ℕ → ParseResult ExpressionTree → Type 0
    RightOperand i = Right (At (OneOperand d) i) EndsOperand ts i

    abbrev pub RightIndex : ℕ → ParseResult (Option ExpressionTree) → Type 0
    RightIndex i = Right (At (OneIndex d) i) EndsOperand ts i

    abbrev pub RightBracketed : ℕ → ParseResult ExpressionTree → Type 0
    RightBracketed i = Right (At (Bracketed d) i) Anywhere ts i

    abbrev pub RightExpression : ℕ → ℕ → ParseResult ExpressionTree → Type 0
    RightExpression l i = Right (At (OneExpression d l) i) (EndsExpression l) ts i

    abbrev pub RightLinks : ℕ → ℕ → ParseResult (List LinkTree) → Type 0
    RightLinks m i = Right (At (Star (OneLink d m)) i) (EndsExpression (m + 1)) ts i

    abbrev pub RightCondition : ℕ → ParseResult ExpressionTree → Type 0
    RightCondition i = Right (At (Condition d) i) Anywhere ts i

    abbrev pub RightPart : CallPart → ℕ → ParseResult (Option ArgumentTree) → Type 0
    RightPart p i = Right (At (OnePart d p) i) Anywhere ts i

    abbrev pub RightParts : List CallPart → ℕ → ParseResult (List ArgumentTree) → Type 0
    RightParts ps i = Right (At (Parts d ps) i) Anywhere ts i

    abbrev pub RightCall : ℕ → ParseResult Called → Type 0
    RightCall i = Right (At (OneCall d) i) Anywhere ts i

    -- the outcome of the arguments of a call, in the call
    abbrev pub RightArguments : Service → List CallPart → ℕ → ParseResult Called → Type 0
    RightArguments s ps i = Right (At (Arguments d s ps) i) Anywhere ts i

    abbrev pub RightSource : ℕ → ParseResult SourceTree → Type 0
    RightSource i = Right (At (OneSource d) i) (EndsExpression loosest) ts i

    abbrev pub RightVariableChange : ℕ → ParseResult SourceTree → Type 0
    RightVariableChange i = Right (At (OneVariableChange d) i) Anywhere ts i

    abbrev pub RightElementChange : ℕ → ParseResult (ExpressionTree × ExpressionTree) → Type 0
    RightElementChange i = Right (At (OneElementChange d) i) Anywhere ts i

    abbrev pub RightChange : ℕ → ParseResult ChangeTree → Type 0
    RightChange i = Right (At (OneChange d) i) Anywhere ts i

    abbrev pub RightAssignment : ℕ → ParseResult StatementTree → Type 0
    RightAssignment i = Right (At (Assignment d) i) Anywhere ts i

    abbrev pub RightPlainCall : ℕ → ParseResult StatementTree → Type 0
    RightPlainCall i = Right (At (PlainCall d) i) Anywhere ts i

    module _ (loop : Bool) where
      abbrev pub RightStatement : ℕ → ParseResult StatementTree → Type 0
      RightStatement i = Right (At (OneStatement d loop) i) EndsElse ts i

      abbrev pub RightIf : ℕ → ParseResult StatementTree → Type 0
      RightIf i = Right (At (OneIf d loop) i) EndsElse ts i

      abbrev pub RightElse : ℕ → ParseResult (Option Block) → Type 0
      RightElse i = Right (At (Else d loop) i) EndsElse ts i

      abbrev pub RightOther : ℕ → ParseResult Block → Type 0
      RightOther i = Right (At (Other d loop) i) EndsElse ts i

      abbrev pub RightBlock : ℕ → ParseResult Block → Type 0
      RightBlock i = Right (At (OneBlock d loop) i) Anywhere ts i

      abbrev pub RightStatements : ℕ → ParseResult (List StatementTree) → Type 0
      RightStatements i = Right (At (Star (OneStatement d loop)) i) EndsStatements ts i

-- what the vectors of the code hold
abbrev pub declarations_view : Vec Declaration Global → List Declaration
declarations_view v = v.items

abbrev pub links_view : Vec Link Global → List LinkTree
links_view v = map link_view v.items

abbrev pub statements_view : Vec Statement Global → List StatementTree
statements_view v = map statement_view v.items

abbrev pub block_view : Vec Statement Global → Block
block_view v = block_of (map statement_view v.items)

abbrev pub bodies_view : Vec Body Global → List BodyTree
bodies_view v = map body_view v.items

abbrev pub else_view : Option (Vec Statement Global) → Option Block
else_view None = None
else_view (Some v) = Some (block_view v)

-- a call, without the variable before `=`
abbrev pub called_view : ServiceCall → Called
called_view c = record { service = c.service; arguments = map expression_view c.arguments.items; out = c.receivers.out }

abbrev pub argument_view : Option Argument → Option ArgumentTree
argument_view None = None
argument_view (Some (argument.Value e)) = Some (value (expression_view e))
argument_view (Some (argument.Out w)) = Some (out w)

abbrev pub source_view : GivenValue → SourceTree
source_view (given.Value e) = by_value (expression_view e)
source_view (given.Call c) = by_call (called_view c)

abbrev pub element_view : ElementChange → ExpressionTree × ExpressionTree
element_view c = (expression_view c.index, expression_view c.value)

abbrev pub change_view : Change → ChangeTree
change_view (change.Variable g) = to_variable (source_view g)
change_view (change.Element c) = to_element (element_view c)

-- the tokens are bodies that spell this program and no other one, or else the first fault stands at this place
abbrev pub IsVerdict : List TokenKind → Result Program ReadError → Type 0
IsVerdict ts (Ok p) =
    IsWhole Bodies ts (program_view p)
    × ((other : List BodyTree) → IsWhole Bodies ts other → other ≡ program_view p)
IsVerdict ts (Err errors.Memory) = Unit {0}
IsVerdict ts (Err (errors.Fault f)) = IsFirstFault Bodies ts f.at f.why

-- the tokens of the text spell this program and no other one, or else this is the first fault of the text
abbrev pub IsRead : List ℕ → Result Program BuildFault → Type 0
IsRead text (Ok p) =
    ((ts : List Token) × Spells Bodies text ts (program_view p)) ×
    ((ts : List Token) (other : List BodyTree) → Spells Bodies text ts other → other ≡ program_view p)
IsRead text (Err build.Memory) = Unit {0}
IsRead text (Err f) = IsSyntaxFault file.Source Bodies text f

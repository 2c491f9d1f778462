-- Statements of a text in C, each without what its first line begins with. Each other line begins with its margin, and
-- each line ends with the comments of its tokens. The place of a statement is where its line begins in the list of
-- tokens.
use Rattle.std.specs.Prelude.{ℕ, zero, suc, ◌+◌, List, [], ◌∷◌, ◌++◌, codes, decimal, take, drop, Bool, true, false}
use Rattle.std.specs.Prelude.{◌||◌, ◌&&◌, not, Option, Some, None}
use Rattle.fmp_base.specs.Services.{service_name, out_place}
use Rattle.fmp_base.specs.Systems.{found}
use Rattle.fmp_tasklang.specs.declared.trees.Word.{Word}
use Rattle.fmp_tasklang.specs.Trees.{ExpressionTree, CallTree, StatementTree, assign, assign_element, service_call}
use Rattle.fmp_tasklang.specs.Trees.{if_then, if_else, while, break, continue, return, Block, empty, next}
use Rattle.fmp_export.specs.declared.pieces.Risk.{Risk}
use Rattle.fmp_export.specs.declared.pieces.Risk.TheVariants as risk
use Rattle.fmp_export.specs.declared.source.Landmark.TheVariants as landmark
use Rattle.fmp_export.specs.Expressions.{c_expression, c_expressions}
use Rattle.fmp_export.specs.Pieces.{PieceText, joint_risk, matters}
use Rattle.fmp_export.specs.Remarks.{c_directive, c_finish}
use Rattle.fmp_export.specs.Sources.{SourceText, place_after, stands_at}
use Rattle.fmp_export.specs.Words.{c_name, tab}

-- the call of a function, or the macro that evaluates the index first
abbrev pub set_front : (ordered : Bool) → List ℕ
set_front true = codes "fmp_set_ordered("
set_front false = codes "fmp_set("

-- an element of the array of this name in C gets a value
unfoldable pub c_store : (name : List ℕ) → (index value : PieceText) → List ℕ
c_store name index value =
    set_front (matters index.risk value.risk)
    ++ (name ++ (codes ", " ++ (index.text ++ (codes ", " ++ (value.text ++ codes ");")))))

-- the order of these evaluations can be seen, after others
abbrev pub any_matters : Risk → List PieceText → Bool
any_matters r [] = false
any_matters r (p ∷ ps) = matters r p.risk || any_matters (joint_risk r p.risk) ps

-- the variable of the value at a place
abbrev pub value_name : ℕ → List ℕ
value_name n = codes "fmp_value_" ++ decimal n

-- the value at a place, in a variable of its own
unfoldable pub c_value : (margin : List ℕ) → (n : ℕ) → PieceText → List ℕ
c_value margin n p =
    margin ++ (codes "int32_t " ++ (value_name n ++ (codes " = " ++ (p.text ++ codes ";\n"))))

-- the values at places from n on
abbrev pub c_values : (margin : List ℕ) → (n : ℕ) → List PieceText → List ℕ
c_values margin n [] = []
c_values margin n (p ∷ ps) = c_value margin n p ++ c_values margin (n + 1) ps

-- what stands before what is passed at a place
abbrev pub c_comma : ℕ → List ℕ
c_comma zero = []
c_comma (suc n) = codes ", "

-- an argument: its text, or the variable of its value
abbrev pub c_argument : (ordered : Bool) → (n : ℕ) → PieceText → List ℕ
c_argument true n p = value_name n
c_argument false n p = p.text

unfoldable pub c_passed : (ordered : Bool) → (n : ℕ) → PieceText → List ℕ
c_passed ordered n p = c_comma n ++ c_argument ordered n p

-- the arguments at places from n on
abbrev pub c_listed : (ordered : Bool) → (n : ℕ) → List PieceText → List ℕ
c_listed ordered n [] = []
c_listed ordered n (p ∷ ps) = c_passed ordered n p ++ c_listed ordered (n + 1) ps

-- the out place, before which n arguments stand
abbrev pub c_out : (n : ℕ) → Word → List ℕ
c_out n w = c_comma n ++ (codes "&" ++ c_name w.name)

-- the arguments, and the out place with n arguments before it
abbrev pub c_arguments : (ordered : Bool) → (n : ℕ) → Option Word → List PieceText → List ℕ
c_arguments ordered n None ps = c_listed ordered 0 ps
c_arguments ordered n (Some w) ps =
    c_listed ordered 0 (take n ps) ++ (c_out n w ++ c_listed ordered n (drop n ps))

abbrev pub c_result : Option Word → List ℕ
c_result (Some w) = c_name w.name ++ codes " = "
c_result None = []

-- the call of a service with these arguments
unfoldable pub c_invocation : (ordered : Bool) → CallTree → List PieceText → List ℕ
c_invocation ordered c ps =
    c_result c.result
    ++ (service_name c.service
    ++ (codes "(" ++ (c_arguments ordered (found 0 (out_place c.service)) c.out ps ++ codes ");")))

abbrev pub c_call_by : (ordered : Bool) → (margin : List ℕ) → CallTree → List PieceText → List ℕ
c_call_by false margin c ps = c_invocation false c ps
c_call_by true margin c ps =
    codes "{\n"
    ++ (c_values (margin ++ tab) 0 ps
    ++ ((margin ++ tab) ++ (c_invocation true c ps ++ (codes "\n" ++ (margin ++ codes "}")))))

-- C leaves open which argument is evaluated first: where that can be seen, each is evaluated before the call
abbrev pub c_call_of : (margin : List ℕ) → CallTree → List PieceText → List ℕ
c_call_of margin c ps = c_call_by (any_matters risk.Safe ps) margin c ps

unfoldable pub c_call : SourceText → (margin : List ℕ) → (at : ℕ) → CallTree → List ℕ
c_call s margin at c = c_call_of margin c (c_expressions s at c.arguments)

-- `if (` or the like, a condition and `) {`
unfoldable pub c_head : SourceText → (margin word : List ℕ) → (at : ℕ) → ExpressionTree → List ℕ
c_head s margin word at e =
    word ++ ((c_expression s at e).text ++ (codes ") {" ++ c_finish (margin ++ tab) landmark.LeftBrace s at))

-- the `}` at a place
unfoldable pub c_close : SourceText → (margin : List ℕ) → (at : ℕ) → List ℕ
c_close s margin at = margin ++ (codes "}" ++ c_finish margin landmark.RightBrace s at)

-- a word alone
unfoldable pub c_jump : SourceText → (margin word : List ℕ) → (at : ℕ) → List ℕ
c_jump s margin word at = word ++ c_finish margin landmark.Semicolon s at

-- an assignment to a variable
unfoldable pub c_assign : SourceText → (at : ℕ) → Word → ExpressionTree → List ℕ
c_assign s at w e = c_name w.name ++ (codes " = " ++ ((c_expression s at e).text ++ codes ";"))

-- an assignment to an element, whose index stands before its value
unfoldable pub c_assign_element : SourceText → (at : ℕ) → Word → (i e : ExpressionTree) → List ℕ
c_assign_element s at w i e =
    c_store (c_name w.name) (c_expression s at i) (c_expression s ((c_expression s at i).next) e)

abbrev pub is_if : StatementTree → Bool
is_if (if_then e b) = true
is_if (if_else e b o) = true
is_if _ = false

-- a statement alone that is an `if`: after `else` it goes on in the same line
abbrev pub is_chain : Block → Bool
is_chain empty = false
is_chain (next s empty) = is_if s
is_chain (next s (next t b)) = false

-- the same, but for an `if` in braces of its own; its `else` stands after the `}` at this place
abbrev pub goes_on : SourceText → (at : ℕ) → Block → Bool
goes_on s at o = is_chain o && not (stands_at landmark.LeftBrace s (place_after landmark.Else s at))

-- where a block ends, given where its last statement does: after its `}`
abbrev pub else_end : (chain : Bool) → (chained block : ℕ) → SourceText → ℕ
else_end true chained block s = chained
else_end false chained block s = place_after landmark.RightBrace s block

-- where a choice ends whose `}` before the `else` stands at a place, given where its other block ends
abbrev pub choice_end_by : (end : ℕ → ℕ) → SourceText → (at : ℕ) → Block → ℕ
choice_end_by end s at o = else_end (goes_on s at o) (end at) (end (place_after landmark.LeftBrace s at)) s

-- the place after a statement, and after the statements of a block
abbrev mutual
  pub statement_end : SourceText → (at : ℕ) → StatementTree → ℕ
  statement_end s at (assign w e) = place_after landmark.Semicolon s at
  statement_end s at (assign_element w i e) = place_after landmark.Semicolon s at
  statement_end s at (service_call c) = place_after landmark.Semicolon s at
  statement_end s at (if_then e b) =
      place_after landmark.RightBrace s (block_end s (place_after landmark.LeftBrace s at) b)
  statement_end s at (if_else e b o) =
      choice_end_by (λ i. block_end s i o) s (block_end s (place_after landmark.LeftBrace s at) b) o
  statement_end s at (while e b) =
      place_after landmark.RightBrace s (block_end s (place_after landmark.LeftBrace s at) b)
  statement_end s at break = place_after landmark.Semicolon s at
  statement_end s at continue = place_after landmark.Semicolon s at
  statement_end s at return = place_after landmark.Semicolon s at

  pub block_end : SourceText → (at : ℕ) → Block → ℕ
  block_end s at empty = at
  block_end s at (next t b) = block_end s (statement_end s at t) b

abbrev pub choice_end : SourceText → (at : ℕ) → Block → ℕ
choice_end s at o = choice_end_by (λ i. block_end s i o) s at o

-- a block of a statement with this margin, and its `}`
abbrev pub c_closed : SourceText → (margin block : List ℕ) → (end : ℕ) → List ℕ
c_closed s margin block end = block ++ c_close s margin end

-- the `{` after the `else` that stands after the `}` at a place
unfoldable pub c_else_head : SourceText → (margin : List ℕ) → (at : ℕ) → List ℕ
c_else_head s margin at = margin ++ (codes "} else {" ++ c_finish (margin ++ tab) landmark.LeftBrace s at)

-- what stands after the `if` of a choice: an `if` in the line of the `else`, or a block
abbrev pub c_else : (chain : Bool) → (chained head block : List ℕ) → List ℕ
c_else true chained head block = chained
c_else false chained head block = head ++ block

abbrev pub c_choice_by : (chained block : ℕ → List ℕ) → SourceText → (margin : List ℕ) → (at : ℕ) → Block → List ℕ
c_choice_by chained block s margin at o =
    c_else (goes_on s at o) (chained at) (c_else_head s margin at)
    (c_closed s margin (block (place_after landmark.LeftBrace s at))
    (block_end s (place_after landmark.LeftBrace s at) o))

-- a statement; the statements of a block, each after its margin; and the same, each after `else` in its line
abbrev mutual
  pub c_statement : SourceText → (margin : List ℕ) → (at : ℕ) → StatementTree → List ℕ
  c_statement s margin at (assign w e) = c_assign s at w e ++ c_finish margin landmark.Semicolon s at
  c_statement s margin at (assign_element w i e) =
      c_assign_element s at w i e ++ c_finish margin landmark.Semicolon s at
  c_statement s margin at (service_call c) =
      c_call s margin at c ++ c_finish margin landmark.Semicolon s at
  c_statement s margin at (if_then e b) =
      c_head s margin (codes "if (") at e
      ++ c_closed s margin (c_block s (margin ++ tab) (place_after landmark.LeftBrace s at) b)
      (block_end s (place_after landmark.LeftBrace s at) b)
  c_statement s margin at (if_else e b o) =
      c_head s margin (codes "if (") at e
      ++ (c_block s (margin ++ tab) (place_after landmark.LeftBrace s at) b
      ++ c_choice_by (λ i. c_chained s margin i o) (λ i. c_block s (margin ++ tab) i o) s margin
      (block_end s (place_after landmark.LeftBrace s at) b) o)
  c_statement s margin at (while e b) =
      c_head s margin (codes "fmp_while (") at e
      ++ c_closed s margin (c_block s (margin ++ tab) (place_after landmark.LeftBrace s at) b)
      (block_end s (place_after landmark.LeftBrace s at) b)
  c_statement s margin at break = c_jump s margin (codes "break;") at
  c_statement s margin at continue = c_jump s margin (codes "continue;") at
  c_statement s margin at return = c_jump s margin (codes "return;") at

  pub c_chained : SourceText → (margin : List ℕ) → (at : ℕ) → Block → List ℕ
  c_chained s margin at empty = []
  c_chained s margin at (next t b) =
      (margin ++ (codes "} else " ++ c_statement s margin at t)) ++ c_chained s margin (statement_end s at t) b

  pub c_block : SourceText → (margin : List ℕ) → (at : ℕ) → Block → List ℕ
  c_block s margin at empty = []
  c_block s margin at (next t b) =
      (c_directive s at ++ (margin ++ c_statement s margin at t)) ++ c_block s margin (statement_end s at t) b

-- what stands after the `if` of a choice, whose `}` stands at a place
abbrev pub c_choice : SourceText → (margin : List ℕ) → (at : ℕ) → Block → List ℕ
c_choice s margin at o =
    c_choice_by (λ i. c_chained s margin i o) (λ i. c_block s (margin ++ tab) i o) s margin at o

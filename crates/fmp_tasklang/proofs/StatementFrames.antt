-- What statements depend on, and what begins them.
use Rattle.std.proofs.Common.{◌≡◌, ℕ, ◌+◌, ◌<◌, ◌≤◌, Bool, true, false, List, [], ◌∷◌, length, slice_get, Option, Some}
use Rattle.std.proofs.Common.{None, option_and_then, refl, sym, ap, subst, ◌∙◌, arith}
use Rattle.fmp_lex.specs.declared.token.Symbol.TheVariants as symbol
use Rattle.fmp_lex.specs.declared.token.TokenKind.{TokenKind}
use Rattle.fmp_lex.specs.declared.token.TokenKind.TheVariants as kind
use Rattle.fmp_base.specs.declared.words.Keyword.TheVariants as keyword
use Rattle.fmp_lex.specs.Reading.{Rel, Item, Star, OneToken}
use Rattle.fmp_lex.proofs.Sequences.{Framed, Fills, Between, between_part, between_front, between_rest, token_framed}
use Rattle.fmp_lex.proofs.Sequences.{item_framed}
use Rattle.fmp_lex.proofs.Repetitions.{Behind, Closed, behind_framed, behind_fills, closed_framed, closed_fills}
use Rattle.fmp_lex.proofs.Repetitions.{star_framed, star_fills}
use Rattle.fmp_tasklang.specs.declared.trees.Word.{Word}
use Rattle.fmp_tasklang.specs.Trees.{ExpressionTree, StatementTree, Block}
use Rattle.fmp_tasklang.specs.Blocks.{block_of}
use Rattle.fmp_tasklang.specs.Expressions.{name_of, loosest, IsOperand, a_number, a_name, a_group, a_unary}
use Rattle.fmp_tasklang.specs.Expressions.{IsExpression, an_operand, a_chain}
use Rattle.fmp_tasklang.specs.Calls.{service_of, OneCall}
use Rattle.fmp_tasklang.specs.Statements.{jump_of, IsResult, IsStatement, an_assignment, an_element_assignment, a_call}
use Rattle.fmp_tasklang.specs.Statements.{a_jump, an_if, a_while, IsIf, if_chosen, IsElse, no_else, an_else, IsOther}
use Rattle.fmp_tasklang.specs.Statements.{a_block, another_if, IsBlock, braces, AreStatements, no_statement}
use Rattle.fmp_tasklang.specs.Statements.{a_statement}
use Rattle.fmp_tasklang.specs.Reading.{OneWord, Bracketed, OneExpression, Condition, OneStatement, Else, OneBlock}
use Rattle.fmp_tasklang.proofs.Arguments.{call_framed}
use Rattle.fmp_tasklang.proofs.Families.{family, number_family, name_family, unary_family}
use Rattle.fmp_tasklang.proofs.Layers.{Deeper, deeper_fills}
use Rattle.fmp_tasklang.proofs.Operands.{left, right, word_framed, bracketed_framed, bracketed_up, expression_framed}
use Rattle.fmp_tasklang.proofs.Operands.{expression_up, Ended, ended_fills}

abbrev pub open_brace : TokenKind
open_brace = kind.Symbol symbol.LeftBrace

abbrev pub close_brace : TokenKind
close_brace = kind.Symbol symbol.RightBrace

abbrev pub semicolon : TokenKind
semicolon = kind.Symbol symbol.Semicolon

abbrev pub equals : TokenKind
equals = kind.Symbol symbol.Assign

abbrev pub if_word : TokenKind
if_word = kind.Keyword keyword.If

abbrev pub else_word : TokenKind
else_word = kind.Keyword keyword.Else

abbrev pub while_word : TokenKind
while_word = kind.Keyword keyword.While

pub condition_framed : (d : ℕ) → Framed (Condition d)
condition_framed d = behind_framed left (Ended d right) (closed_framed (OneExpression d loosest) right
    (expression_framed d loosest))

pub condition_fills : (d : ℕ) → Fills (Condition d)
condition_fills d = behind_fills left (Ended d right) (ended_fills d right)

abbrev Result : Rel (Option Word)
Result ts limit i r j = IsResult ts limit i r j

result_up : (us : List TokenKind) (limit i : ℕ) (r : Option Word) (j : ℕ) → Result us limit i r j → i ≤ j
result_up us limit i None j x = omega (arith, x)
result_up us limit i (Some w) j x = omega (arith, x.1.1.1, x.2.1)

result_same : (ts us : List TokenKind) (limit lower i : ℕ) (r : Option Word) (j : ℕ) → lower ≤ limit
    → Result ts limit i r j → Between i j ts us → Result us lower i r j
result_same ts us limit lower i None j low x same = x
result_same ts us limit lower i (Some w) j low x same = (
  x.0,
  word_framed.same ts us limit lower i w x.0 low x.1 (between_front i x.0 j ts us (omega (arith, x.2.1)) same),
  (token_framed equals).same ts us limit lower x.0 tt j low x.2 (between_rest i x.0 j ts us
      (omega (arith, x.1.1.1)) same),
)

result_framed : Framed Result
result_framed = record { up = result_up; same = result_same }

module _ (ts : List TokenKind) (limit : ℕ) where
  mutual
    pub statement_up : {d : ℕ} {loop : Bool} {i : ℕ} {s : StatementTree} {j : ℕ} → IsStatement ts limit d loop i s j
        → i < j
    statement_up (an_assignment a r e semi) = let up = expression_up ts limit e in omega (arith, r.1.1.1, r.2.1, semi.1)
    statement_up {d = d} (an_element_assignment {b = b} {index = index} a w x eq e semi) =
        let first = bracketed_up ts limit d a index b x in
        let up = expression_up ts limit e in
        omega (arith, w.1.1, eq.1, semi.1)
    statement_up {d = d} {i = i} (a_call r a c b res call semi is) =
        let first = result_up ts limit i r a res in
        let up = (call_framed d).up ts limit a c b call in
        omega (arith, semi.1)
    statement_up (a_jump x semi) = omega (arith, x.1, semi.1)
    statement_up (an_if s) = if_up s
    statement_up {d = d} (a_while {a = a} {b = b} {e = e} x test body) =
        let up = (condition_framed d).up ts limit a e b test in
        let more = block_up body in
        omega (arith, x.1)

    pub if_up : {d : ℕ} {loop : Bool} {i : ℕ} {s : StatementTree} {j : ℕ} → IsIf ts limit d loop i s j → i < j
    if_up {d = d} (if_chosen {a = a} {b = b} {e = e} x test body o is) =
        let up = (condition_framed d).up ts limit a e b test in
        let more = block_up body in
        let last = else_up o in
        omega (arith, x.1)

    pub else_up : {d : ℕ} {loop : Bool} {i : ℕ} {o : Option Block} {j : ℕ} → IsElse ts limit d loop i o j → i ≤ j
    else_up no_else = omega arith
    else_up (an_else x o) = let more = other_up o in omega (arith, x.1)

    pub other_up : {d : ℕ} {loop : Bool} {i : ℕ} {b : Block} {j : ℕ} → IsOther ts limit d loop i b j → i < j
    other_up (a_block b) = block_up b
    other_up (another_if fits s is) = if_up s

    pub block_up : {d : ℕ} {loop : Bool} {i : ℕ} {b : Block} {j : ℕ} → IsBlock ts limit d loop i b j → i < j
    block_up (braces fits x ss y is) = let more = statements_up ss in omega (arith, x.1, y.1)

    pub statements_up : {d : ℕ} {loop : Bool} {i : ℕ} {ss : List StatementTree} {j : ℕ}
        → AreStatements ts limit d loop i ss j → i ≤ j
    statements_up no_statement = omega arith
    statements_up (a_statement s ss) = let up = statement_up s in let more = statements_up ss in omega arith

module _ (ts us : List TokenKind) (limit lower : ℕ) (low : lower ≤ limit) where
  -- a part of what has the same tokens
  piece : {A : Type 0} (X : Rel A) → Framed X → (i m : ℕ) (a : A) (n j : ℕ) → i ≤ m → n ≤ j → X ts limit m a n
      → Between i j ts us → X us lower m a n
  piece X fx i m a n j le more x same = fx.same ts us limit lower m a n low x (between_part i m n j ts us le more same)

  mutual
    pub statement_same : {d : ℕ} {loop : Bool} {i : ℕ} {s : StatementTree} {j : ℕ} → IsStatement ts limit d loop i s j
        → Between i j ts us → IsStatement us lower d loop i s j
    statement_same {d = d} {i = i} {j = j} (an_assignment {b = b} {w = w} {e = e} a r x semi) same =
        let up = expression_up ts limit x in
        an_assignment a (piece Result result_framed i i (Some w) a j (omega arith) (omega (arith, semi.1)) r same)
        (piece (OneExpression d loosest) (expression_framed d loosest) i a e b j (omega (arith, r.1.1.1, r.2.1))
        (omega (arith, semi.1)) x same)
        (piece (OneToken semicolon) (token_framed semicolon) i b tt j j (omega (arith, r.1.1.1, r.2.1))
        (omega arith) semi same)
    statement_same {d = d} {i = i} {j = j} (an_element_assignment {b = b} {c = c} {k = k} {w = w} {index = index}
        {e = e} a name x eq y semi) same =
        let first = bracketed_up ts limit d a index b x in
        let up = expression_up ts limit y in
        an_element_assignment a (piece OneWord word_framed i i w a j (omega arith)
        (omega (arith, eq.1, semi.1)) name same)
        (piece (Bracketed d) (bracketed_framed d) i a index b j (omega (arith, name.1.1))
        (omega (arith, eq.1, semi.1)) x same)
        (piece (OneToken equals) (token_framed equals) i b tt c j (omega (arith, name.1.1))
        (omega (arith, semi.1)) eq same)
        (piece (OneExpression d loosest) (expression_framed d loosest) i c e k j (omega (arith, name.1.1, eq.1))
        (omega (arith, semi.1)) y same)
        (piece (OneToken semicolon) (token_framed semicolon) i k tt j j (omega (arith, name.1.1, eq.1))
        (omega arith) semi same)
    statement_same {d = d} {i = i} {j = j} (a_call r a c b res call semi is) same =
        let first = result_up ts limit i r a res in
        let up = (call_framed d).up ts limit a c b call in
        a_call r a c b (piece Result result_framed i i r a j (omega arith) (omega (arith, semi.1)) res same)
        (piece (OneCall d) (call_framed d) i a c b j (omega arith) (omega (arith, semi.1)) call same)
        (piece (OneToken semicolon) (token_framed semicolon) i b tt j j (omega arith) (omega arith) semi same) is
    statement_same {i = i} {j = j} (a_jump {a = a} {loop = loop} {s = s} x semi) same =
        a_jump (piece (Item (jump_of loop)) (item_framed (jump_of loop)) i i s a j (omega arith)
        (omega (arith, semi.1)) x same)
        (piece (OneToken semicolon) (token_framed semicolon) i a tt j j (omega (arith, x.1)) (omega arith) semi same)
    statement_same (an_if s) same = an_if (if_same s same)
    statement_same {d = d} {i = i} {j = j} (a_while {a = a} {b = b} {e = e} x test body) same =
        let up = (condition_framed d).up ts limit a e b test in
        let more = block_up ts limit body in
        a_while (piece (OneToken while_word) (token_framed while_word) i i tt a j (omega arith) (omega arith) x same)
        (piece (Condition d) (condition_framed d) i a e b j (omega (arith, x.1)) (omega arith) test same)
        (block_same body (between_rest i b j ts us (omega (arith, x.1)) same))

    pub if_same : {d : ℕ} {loop : Bool} {i : ℕ} {s : StatementTree} {j : ℕ} → IsIf ts limit d loop i s j
        → Between i j ts us → IsIf us lower d loop i s j
    if_same {d = d} {i = i} {j = j} (if_chosen {a = a} {b = b} {c = c} {e = e} x test body o is) same =
        let up = (condition_framed d).up ts limit a e b test in
        let more = block_up ts limit body in
        let last = else_up ts limit o in
        if_chosen (piece (OneToken if_word) (token_framed if_word) i i tt a j (omega arith) (omega arith) x same)
        (piece (Condition d) (condition_framed d) i a e b j (omega (arith, x.1)) (omega arith) test same)
        (block_same body (between_part i b c j ts us (omega (arith, x.1)) last same))
        (else_same o (between_rest i c j ts us (omega (arith, x.1)) same)) is

    pub else_same : {d : ℕ} {loop : Bool} {i : ℕ} {o : Option Block} {j : ℕ} → IsElse ts limit d loop i o j
        → Between i j ts us → IsElse us lower d loop i o j
    else_same no_else same = no_else
    else_same {i = i} {j = j} (an_else {a = a} x o) same =
        let more = other_up ts limit o in
        an_else (piece (OneToken else_word) (token_framed else_word) i i tt a j (omega arith) (omega arith) x same)
        (other_same o (between_rest i a j ts us (omega (arith, x.1)) same))

    pub other_same : {d : ℕ} {loop : Bool} {i : ℕ} {b : Block} {j : ℕ} → IsOther ts limit d loop i b j
        → Between i j ts us → IsOther us lower d loop i b j
    other_same (a_block b) same = a_block (block_same b same)
    other_same (another_if fits s is) same = another_if (λ lt. fits (omega (arith, lt))) (if_same s same) is

    pub block_same : {d : ℕ} {loop : Bool} {i : ℕ} {b : Block} {j : ℕ} → IsBlock ts limit d loop i b j
        → Between i j ts us → IsBlock us lower d loop i b j
    block_same {i = i} {j = j} (braces {a = a} {b = b} fits x ss y is) same =
        let more = statements_up ts limit ss in
        braces (λ lt. fits (omega (arith, lt))) (piece (OneToken open_brace) (token_framed open_brace) i i tt a j
        (omega arith) (omega (arith, y.1)) x same)
        (statements_same ss (between_part i a b j ts us (omega (arith, x.1)) (omega (arith, y.1)) same))
        (piece (OneToken close_brace) (token_framed close_brace) i b tt j j (omega (arith, x.1)) (omega arith) y same)
        is

    pub statements_same : {d : ℕ} {loop : Bool} {i : ℕ} {ss : List StatementTree} {j : ℕ}
        → AreStatements ts limit d loop i ss j → Between i j ts us → AreStatements us lower d loop i ss j
    statements_same no_statement same = no_statement
    statements_same {i = i} {j = j} (a_statement {a = a} s ss) same =
        let up = statement_up ts limit s in
        a_statement (statement_same s (between_front i a j ts us (statements_up ts limit ss) same))
        (statements_same ss (between_rest i a j ts us (omega arith) same))

module _ (d : ℕ) (loop : Bool) where
  pub statement_framed : Framed (OneStatement d loop)
  statement_framed = record {
    up = λ us limit i a j x. let up = statement_up us limit x in omega arith;
    same = λ ts us limit lower i a j low x same. statement_same ts us limit lower low x same;
  }

  pub block_framed : Framed (OneBlock d loop)
  block_framed = record {
    up = λ us limit i a j x. let up = block_up us limit x in omega arith;
    same = λ ts us limit lower i a j low x same. block_same ts us limit lower low x same;
  }

  pub else_fills : Fills (Else d loop)
  else_fills us limit low = record { other = us; same = λ k lt. refl; long = omega arith; tree = None; reads = no_else }

module _ (us : List TokenKind) (limit d : ℕ) (loop : Bool) where
  pub to_star : {i : ℕ} {ss : List StatementTree} {j : ℕ} → AreStatements us limit d loop i ss j
      → Star (OneStatement d loop) us limit i ss j
  to_star no_statement = refl
  to_star (a_statement {a = a} s ss) = (a, s, to_star ss)

  pub from_star : (i : ℕ) (ss : List StatementTree) (j : ℕ) → Star (OneStatement d loop) us limit i ss j
      → AreStatements us limit d loop i ss j
  from_star i [] j x = subst (λ n. AreStatements us limit d loop i [] n) (sym x) no_statement
  from_star i (s ∷ ss) j x = a_statement x.1 (from_star x.0 ss j x.2)

-- a block as a sequence
module _ (d : ℕ) (loop : Bool) where
  abbrev pub Inside : Rel (List StatementTree)
  Inside = Closed (Star (OneStatement (d + 1) loop)) close_brace

  abbrev pub Braces : Rel (List StatementTree)
  Braces = Deeper d (Behind open_brace Inside)

  pub braces_to : (us : List TokenKind) (limit i : ℕ) (ss : List StatementTree) (j : ℕ) → Braces us limit i ss j
      → OneBlock d loop us limit i (block_of ss) j
  braces_to us limit i ss j r = braces r.0 r.1.1 (from_star us limit (d + 1) loop r.1.0 ss r.1.2.0 r.1.2.1) r.1.2.2 refl

  pub inside_fills : Fills Inside
  inside_fills = closed_fills (Star (OneStatement (d + 1) loop)) close_brace
      (star_framed (OneStatement (d + 1) loop) (statement_framed (d + 1) loop)) (star_fills (OneStatement (d + 1) loop))

  pub block_fills : Fills (OneBlock d loop)
  block_fills us limit low =
      let x = deeper_fills d (Behind open_brace Inside) (behind_fills open_brace Inside inside_fills) us limit low in
      record {
        other = x.other;
        same = x.same;
        long = x.long;
        tree = block_of x.tree;
        reads = braces_to x.other limit (length us) x.tree (length x.other) x.reads;
      }

-- a token that begins no statement
pub record BeginsNone (loop : Bool) (o : Option TokenKind) : Type 0 where
  pub no_name : option_and_then name_of o ≡ None
  pub no_service : option_and_then service_of o ≡ None
  pub no_jump : option_and_then (jump_of loop) o ≡ None
  pub no_if : o ≡ Some if_word → ⊥
  pub no_while : o ≡ Some while_word → ⊥

pub none_begins : (us : List TokenKind) (limit d : ℕ) (loop : Bool) {i : ℕ} {s : StatementTree} {j : ℕ}
    → BeginsNone loop (slice_get us i) → IsStatement us limit d loop i s j → ⊥
none_begins us limit d loop none (an_assignment {w = w} a r e semi) = let e : None ≡ Some w.name = sym none.no_name
    ∙ r.1.1.0 in absurd (cc)
none_begins us limit d loop none (an_element_assignment {w = w} a name x eq y semi) = let e : None
    ≡ Some w.name = sym none.no_name ∙ name.1.0 in absurd (cc)
none_begins us limit d loop none (a_call (Some w) a c b res call semi is) = let e : None
    ≡ Some w.name = sym none.no_name ∙ res.1.1.0 in absurd (cc)
none_begins us limit d loop none (a_call None a c b res call semi is) =
    let e : None ≡ Some c.service = sym none.no_service ∙ (ap (λ n. option_and_then service_of (slice_get us n))
    (sym res) ∙ call.3.0) in absurd (cc)
none_begins us limit d loop none (a_jump {s = s} x semi) = let e : None ≡ Some s = sym none.no_jump ∙ x.0 in absurd (cc)
none_begins us limit d loop none (an_if (if_chosen x test body o is)) = none.no_if x.0
none_begins us limit d loop none (a_while x test body) = none.no_while x.0

no_jump_else : (loop : Bool) → jump_of loop else_word ≡ None
no_jump_else true = refl
no_jump_else false = refl

no_jump_brace : (loop : Bool) → jump_of loop close_brace ≡ None
no_jump_brace true = refl
no_jump_brace false = refl

pub else_begins_none : (loop : Bool) (o : Option TokenKind) → o ≡ Some else_word → BeginsNone loop o
else_begins_none loop o is = record {
  no_name = ap (option_and_then name_of) is;
  no_service = ap (option_and_then service_of) is;
  no_jump = ap (option_and_then (jump_of loop)) is ∙ no_jump_else loop;
  no_if = λ e. let f : Some else_word ≡ Some if_word = sym is ∙ e in absurd (cc);
  no_while = λ e. let f : Some else_word ≡ Some while_word = sym is ∙ e in absurd (cc);
}

pub brace_begins_none : (loop : Bool) (o : Option TokenKind) → o ≡ Some close_brace → BeginsNone loop o
brace_begins_none loop o is = record {
  no_name = ap (option_and_then name_of) is;
  no_service = ap (option_and_then service_of) is;
  no_jump = ap (option_and_then (jump_of loop)) is ∙ no_jump_brace loop;
  no_if = λ e. let f : Some close_brace ≡ Some if_word = sym is ∙ e in absurd (cc);
  no_while = λ e. let f : Some close_brace ≡ Some while_word = sym is ∙ e in absurd (cc);
}

-- an expression begins with a number, a constant, a name or a symbol
module _ (us : List TokenKind) (limit : ℕ) where
  operand_family : {d i : ℕ} {e : ExpressionTree} {j : ℕ} → IsOperand us limit d i e j → family (slice_get us i) ≤ 2
  operand_family {i = i} (a_number {n = n} x) = let f = number_family (slice_get us i) n x.0 in omega arith
  operand_family {i = i} (a_name {w = w} x index is) = let f = name_family (slice_get us i) w.name x.1.0 in omega arith
  operand_family {i = i} (a_group fits a e b) = let f : family (slice_get us i) ≡ 2 = ap family a.0 in omega arith
  operand_family {i = i} (a_unary {op = op} fits a e) = let f = unary_family (slice_get us i) op a.0 in omega arith

  pub expression_family : {d l i : ℕ} {e : ExpressionTree} {j : ℕ} → IsExpression us limit d l i e j
      → family (slice_get us i) ≤ 2
  expression_family (an_operand z e) = operand_family e
  expression_family (a_chain z x links is) = expression_family x

-- Operands and expressions: what they depend on, and what is right about reading one.
use Rattle.std.proofs.Common.{◌≡◌, ℕ, Bool, true, false, zero, suc, add-one, ℤ, pos, ◌+◌, ◌<◌, ◌≤◌, List, [], length}
use Rattle.std.proofs.Common.{slice_get, Option, Some, None, option_and_then, refl, sym, ap, ◌∙◌, arith}
use Rattle.fmp_base.specs.declared.names.Name.{Name}
use Rattle.fmp_base.specs.declared.operators.UnaryOperator.{UnaryOperator}
use Rattle.fmp_base.specs.Names.{name_from}
use Rattle.fmp_lex.specs.declared.reading.GrammarFault.{GrammarFault}
use Rattle.fmp_lex.specs.declared.reading.GrammarFault.TheVariants.{Syntax, Depth}
use Rattle.fmp_lex.specs.declared.token.Symbol.TheVariants as symbol
use Rattle.fmp_lex.specs.declared.token.TokenKind.{TokenKind}
use Rattle.fmp_lex.specs.declared.token.TokenKind.TheVariants as kind
use Rattle.fmp_lex.specs.Reading.{Rel, At, OneToken, Item, ParseResult, found, stopped, map_result, Right, Anywhere}
use Rattle.fmp_lex.specs.Reading.{RightToken}
use Rattle.fmp_lex.specs.Reading.{Seq}
use Rattle.fmp_lex.proofs.Sequences.{Framed, Fills, Follows, Between, between_part, between_front, between_rest}
use Rattle.fmp_lex.proofs.Sequences.{token_framed, token_found, item_framed, item_fills, item_found, item_missing}
use Rattle.fmp_lex.proofs.Sequences.{right_as, seq_then, seq_stop}
use Rattle.fmp_lex.proofs.Repetitions.{Behind, Closed, behind_framed, behind_then, closed_framed, closed_fills}
use Rattle.fmp_lex.proofs.Repetitions.{closed_found, closed_missing, closed_stop}
use Rattle.fmp_tasklang.specs.declared.trees.Operator.{Operator}
use Rattle.fmp_tasklang.specs.declared.trees.Word.{Word}
use Rattle.fmp_tasklang.specs.Trees.{ExpressionTree, number, unary}
use Rattle.fmp_tasklang.specs.Views.{LinkTree}
use Rattle.fmp_tasklang.specs.Expressions.{token_number, name_of, unary_of, operator_of, loosest, reference, IsOperand}
use Rattle.fmp_tasklang.specs.Expressions.{a_number, a_name, a_group, a_unary, IsIndex, no_index, an_index}
use Rattle.fmp_tasklang.specs.Expressions.{IsExpression, an_operand, a_chain, AreLinks, no_link, a_link}
use Rattle.fmp_tasklang.specs.Reading.{EndsOperand, EndsExpression, OneWord, OneOperand, OneIndex, Bracketed}
use Rattle.fmp_tasklang.specs.Reading.{OneExpression, OneLink, RightWord, RightOperand, RightIndex, RightBracketed}
use Rattle.fmp_tasklang.specs.Reading.{RightExpression}
use Rattle.fmp_tasklang.proofs.Families.{family, number_family, name_family, unary_family}
use Rattle.fmp_tasklang.proofs.Layers.{token_there, right_same, Deeper, deeper_framed, deeper_then, deeper_deep}

abbrev pub left : TokenKind
left = kind.Symbol symbol.LeftParen

abbrev pub right : TokenKind
right = kind.Symbol symbol.RightParen

abbrev pub open_bracket : TokenKind
open_bracket = kind.Symbol symbol.LeftBracket

abbrev pub close_bracket : TokenKind
close_bracket = kind.Symbol symbol.RightBracket

pub word_framed : Framed OneWord
word_framed = record {
  up = λ us limit i w j x. omega (arith, x.1.1);
  same = λ ts us limit lower i w j low x same. (
    x.0,
    (item_framed name_of).same ts us limit lower i w.name j low x.1
        same,
  );
}

module _ (ts : List TokenKind) (limit : ℕ) where
  mutual
    pub operand_up : {d i : ℕ} {e : ExpressionTree} {j : ℕ} → IsOperand ts limit d i e j → i < j
    operand_up (a_number x) = omega (arith, x.1)
    operand_up (a_name x index is) = let up = index_up index in omega (arith, x.1.1)
    operand_up (a_group fits a e b) = let up = expression_up e in omega (arith, a.1, b.1)
    operand_up (a_unary fits a e) = let up = operand_up e in omega (arith, a.1)

    pub index_up : {d i : ℕ} {o : Option ExpressionTree} {j : ℕ} → IsIndex ts limit d i o j → i ≤ j
    index_up no_index = omega arith
    index_up (an_index fits a e b) = let up = expression_up e in omega (arith, a.1, b.1)

    pub expression_up : {d l i : ℕ} {e : ExpressionTree} {j : ℕ} → IsExpression ts limit d l i e j → i < j
    expression_up (an_operand z e) = operand_up e
    expression_up (a_chain z first links is) = let up = expression_up first in let more = links_up links in omega arith

    pub links_up : {d m i : ℕ} {links : List LinkTree} {j : ℕ} → AreLinks ts limit d m i links j → i ≤ j
    links_up no_link = omega arith
    links_up (a_link a e links) = let up = expression_up e in let more = links_up links in omega (arith, a.1)

module _ (ts us : List TokenKind) (limit lower : ℕ) (low : lower ≤ limit) where
  mutual
    operand_same : {d i : ℕ} {e : ExpressionTree} {j : ℕ} → IsOperand ts limit d i e j → Between i j ts us
        → IsOperand us lower d i e j
    operand_same {i = i} {j = j} (a_number {n = n} x) same = a_number ((item_framed token_number).same ts us limit
        lower i n j low x same)
    operand_same {i = i} {j = j} (a_name {a = a} {w = w} x index is) same =
        a_name (word_framed.same ts us limit lower i w a low x (between_front i a j ts us
        (index_up ts limit index) same))
        (index_same index (between_rest i a j ts us (omega (arith, x.1.1)) same)) is
    operand_same {i = i} {j = j} (a_group {a = a} {b = b} fits x e y) same =
        let up = expression_up ts limit e in
        a_group (λ lt. fits (omega (arith, lt))) ((token_framed left).same ts us limit lower i tt a low x
        (between_front i a j ts us (omega (arith, y.1)) same))
        (expression_same e (between_part i a b j ts us (omega (arith, x.1)) (omega (arith, y.1)) same))
        ((token_framed right).same ts us limit lower b tt j low y (between_rest i b j ts us (omega (arith, x.1)) same))
    operand_same {i = i} {j = j} (a_unary {a = a} {op = op} fits x e) same =
        let up = operand_up ts limit e in
        a_unary (λ lt. fits (omega (arith, lt))) ((item_framed unary_of).same ts us limit lower i op a low x
        (between_front i a j ts us (omega arith) same))
        (operand_same e (between_rest i a j ts us (omega (arith, x.1)) same))

    index_same : {d i : ℕ} {o : Option ExpressionTree} {j : ℕ} → IsIndex ts limit d i o j → Between i j ts us
        → IsIndex us lower d i o j
    index_same no_index same = no_index
    index_same {i = i} {j = j} (an_index {a = a} {b = b} fits x e y) same =
        let up = expression_up ts limit e in
        an_index (λ lt. fits (omega (arith, lt))) ((token_framed open_bracket).same ts us limit lower i tt a low x
        (between_front i a j ts us (omega (arith, y.1)) same))
        (expression_same e (between_part i a b j ts us (omega (arith, x.1)) (omega (arith, y.1)) same))
        ((token_framed close_bracket).same ts us limit lower b tt j low y
        (between_rest i b j ts us (omega (arith, x.1)) same))

    expression_same : {d l i : ℕ} {e : ExpressionTree} {j : ℕ} → IsExpression ts limit d l i e j → Between i j ts us
        → IsExpression us lower d l i e j
    expression_same (an_operand z e) same = an_operand z (operand_same e same)
    expression_same {i = i} {j = j} (a_chain {a = a} z first links is) same =
        let up = expression_up ts limit first in
        a_chain z (expression_same first (between_front i a j ts us (links_up ts limit links) same))
        (links_same links (between_rest i a j ts us (omega arith) same)) is

    links_same : {d m i : ℕ} {links : List LinkTree} {j : ℕ} → AreLinks ts limit d m i links j → Between i j ts us
        → AreLinks us lower d m i links j
    links_same no_link same = no_link
    links_same {m = m} {i = i} {j = j} (a_link {a = a} {b = b} {l = l} x e links) same =
        let up = expression_up ts limit e in
        let more = links_up ts limit links in
        a_link ((item_framed operator_of).same ts us limit lower i (m, l.operator) a low x
        (between_front i a j ts us (omega arith) same))
        (expression_same e (between_part i a b j ts us (omega (arith, x.1)) more same))
        (links_same links (between_rest i b j ts us (omega (arith, x.1)) same))

pub operand_framed : (d : ℕ) → Framed (OneOperand d)
operand_framed d = record {
  up = λ us limit i e j x. let up = operand_up us limit x in omega arith;
  same = λ ts us limit lower i e j low x same. operand_same ts us limit lower low x same;
}

pub expression_framed : (d l : ℕ) → Framed (OneExpression d l)
expression_framed d l = record {
  up = λ us limit i e j x. let up = expression_up us limit x in omega arith;
  same = λ ts us limit lower i e j low x same. expression_same ts us limit lower low x same;
}

pub link_framed : (d m : ℕ) → Framed (OneLink d m)
link_framed d m = record {
  up = λ us limit i l j x. let up = expression_up us limit x.2 in omega (arith, x.1.1);
  same = λ ts us limit lower i l j low x same.
      let up = expression_up ts limit x.2 in (
        x.0,
        (item_framed operator_of).same ts us limit lower i (m, l.operator) x.0 low x.1
            (between_front i x.0 j ts us (omega arith) same),
        expression_same ts us limit lower low x.2 (between_rest i x.0 j ts us (omega (arith, x.1.1)) same),
      );
}

-- a number is an expression
number_expression : (us : List TokenKind) (limit d l i : ℕ) (n : ℤ) (j : ℕ) → Item token_number us limit i n j
    → IsExpression us limit d l i (number n) j
number_expression us limit d zero i n j x = an_operand refl (a_number x)
number_expression us limit d (suc l) i n j x = a_chain (sym (add-one l))
    (number_expression us limit d l i n j x) no_link refl

zero_fills : Fills (Item token_number)
zero_fills = item_fills token_number (kind.Number (pos 0)) (pos 0) refl

pub word_fills : Fills OneWord
word_fills us limit low = let x = item_fills name_of (kind.Name (name_from [])) (name_from []) refl us limit low in
    record {
      other = x.other;
      same = x.same;
      long = x.long;
      tree = record { name = x.tree; at = length us };
      reads = (refl, x.reads);
    }

abbrev pub word_here : ℕ → Name → Word
word_here i n = record { name = n; at = i }

word_as : (ts : List TokenKind) (i : ℕ) (o : ParseResult Name) → Right (At (Item name_of) i) Anywhere ts i o
    → RightWord ts i (map_result (word_here i) o)
word_as ts i o x = right_as (Item name_of) OneWord (word_here i) (λ us limit n j r. (refl, r))
    (λ us limit w j at r ends. (w.name, ap (λ l. record { name = w.name; at = l }) r.0, r.1, tt)) o x

pub word_missing : (ts : List TokenKind) (i : ℕ) → None ≡ option_and_then name_of (slice_get ts i) → i ≤ length ts
    → RightWord ts i (stopped i Syntax)
word_missing ts i none within = word_as ts i (stopped i Syntax) (item_missing name_of ts i
    (item_fills name_of (kind.Name (name_from [])) (name_from []) refl)
    (λ a is. let e : None ≡ Some a = none ∙ is in absurd (cc)) within)

pub word_found : (ts : List TokenKind) (i : ℕ) (n : Name) → i < length ts → option_and_then name_of (slice_get ts i)
    ≡ Some n → RightWord ts i (found (word_here i n) (i + 1))
word_found ts i n lt is = word_as ts i (found n (i + 1)) (item_found name_of ts i n lt is)

pub operand_fills : (d : ℕ) → Fills (OneOperand d)
operand_fills d us limit low = let x = zero_fills us limit low in
    record { other = x.other; same = x.same; long = x.long; tree = number x.tree; reads = a_number x.reads }

pub expression_fills : (d l : ℕ) → Fills (OneExpression d l)
expression_fills d l us limit low = let x = zero_fills us limit low in
    record {
      other = x.other;
      same = x.same;
      long = x.long;
      tree = number x.tree;
      reads = number_expression x.other limit d l (length us) x.tree (length x.other) x.reads;
    }

-- whether a token begins an index
abbrev pub begins_index : TokenKind → Bool
begins_index (kind.Symbol symbol.LeftBracket) = true
begins_index _ = false

-- a token that goes on with no expression: it is no operator and begins no index
abbrev pub Closer : TokenKind → Type 0
Closer t = (operator_of t ≡ None) × (begins_index t ≡ false)

no_bracket : (t u : TokenKind) → begins_index t ≡ false → Some t ≡ Some u → u ≡ open_bracket → ⊥
no_bracket t u none e is = let f : t ≡ u = cc in let g : false ≡ true = sym none
    ∙ (ap begins_index f ∙ ap begins_index is) in absurd (cc)

-- what closes an expression is none of what goes on with it
pub closes : (t : TokenKind) → Closer t → Follows (EndsExpression loosest) (OneToken t) Anywhere
closes t none us limit k b j y ends = (
  (λ is. no_bracket t open_bracket none.1 (sym y.0 ∙ is) refl),
  (λ m op is.
      let e : ◌≡◌ {A = Option (ℕ × Operator)} None (Some (m, op)) = sym none.0
      ∙ (ap (option_and_then operator_of) (sym y.0) ∙ is) in absurd (cc)),
)

-- an expression and a token after it
abbrev pub Ended : ℕ → TokenKind → Rel ExpressionTree
Ended d t = Closed (OneExpression d loosest) t

pub ended_fills : (d : ℕ) (t : TokenKind) → Fills (Ended d t)
ended_fills d t = closed_fills (OneExpression d loosest) t (expression_framed d loosest) (expression_fills d loosest)

module _ (d : ℕ) (t : TokenKind) (none : Closer t) (ts : List TokenKind) (i : ℕ) where
  pub ended_stop : (j : ℕ) (why : GrammarFault) → RightExpression ts d loosest i (stopped j why)
      → Right (At (Ended d t) i) Anywhere ts i (stopped j why)
  ended_stop j why x = closed_stop (OneExpression d loosest) t (expression_framed d loosest) (closes t none) x

  pub ended_then : (e : ExpressionTree) (k : ℕ) → RightExpression ts d loosest i (found e k)
      → (o : ParseResult (Unit {0})) → RightToken ts t k o →
      Right (At (Ended d t) i) Anywhere ts i (map_result (λ (u : Unit {0}). e) o)
  ended_then e k x (found u j) y = closed_found (OneExpression d loosest) t (expression_framed d loosest)
      (closes t none) x y
  ended_then e k x (stopped j why) y = closed_missing (OneExpression d loosest) t (expression_framed d loosest)
      (closes t none) x y

pub index_fills : (d : ℕ) → Fills (OneIndex d)
index_fills d us limit low = record {
  other = us;
  same = λ k lt. refl;
  long = omega arith;
  tree = None;
  reads = no_index;
}

pub bracketed_framed : (d : ℕ) → Framed (Bracketed d)
bracketed_framed d = deeper_framed d (Behind open_bracket (Ended (d + 1) close_bracket))
    (behind_framed open_bracket (Ended (d + 1) close_bracket)
    (closed_framed (OneExpression (d + 1) loosest) close_bracket (expression_framed (d + 1) loosest)))

pub bracketed_up : (us : List TokenKind) (limit d i : ℕ) (e : ExpressionTree) (j : ℕ) → Bracketed d us limit i e j
    → i < j
bracketed_up us limit d i e j x = let up = expression_up us limit x.1.2.1 in omega (arith, x.1.1.1, x.1.2.2.1)

-- where an index stands or not, the first token says which
module _ (us : List TokenKind) (limit d i : ℕ) where
  index_none : {o : Option ExpressionTree} {j : ℕ} → (slice_get us i ≡ Some open_bracket → ⊥)
      → IsIndex us limit d i o j → (o ≡ None) × (j ≡ i)
  index_none is_not no_index = (refl, refl)
  index_none is_not (an_index fits x e y) = absurd (is_not x.0)

  index_some : {o : Option ExpressionTree} {j : ℕ} → slice_get us i ≡ Some open_bracket → EndsOperand us j
      → IsIndex us limit d i o j →
      (e : ExpressionTree) × (o ≡ Some e) × Bracketed d us limit i e j
  index_some is ends no_index = absurd (ends is)
  index_some is ends (an_index {a = a} {b = b} {e = e} fits x inner y) = (e, refl, (fits, (a, x, (b, inner, y))))

-- what the first token of an operand says of it
module _ (us : List TokenKind) (limit d i : ℕ) where
  number_back : {e : ExpressionTree} {j : ℕ} → family (slice_get us i) ≡ 0 → IsOperand us limit d i e j → (n : ℤ)
      × (e ≡ number n) × Item token_number us limit i n j
  number_back at (a_number {n = n} x) = (n, refl, x)
  number_back at (a_name {w = w} x index is) = let f = name_family (slice_get us i) w.name x.1.0 in absurd (omega arith)
  number_back at (a_group fits a e b) = let f : family (slice_get us i) ≡ 2 = ap family a.0 in absurd (omega arith)
  number_back at (a_unary {op = op} fits a e) = let f = unary_family (slice_get us i) op a.0 in absurd (omega arith)

  name_back : {e : ExpressionTree} {j : ℕ} → option_and_then token_number (slice_get us i) ≡ None
      → option_and_then unary_of (slice_get us i) ≡ None →
      (slice_get us i ≡ Some left → ⊥) → IsOperand us limit d i e j →
      (p : Word × Option ExpressionTree) × (e ≡ reference p.0 p.1) × Seq OneWord (OneIndex d) us limit i p j
  name_back no_number no_unary no_left (a_number {n = n} x) = let e : None ≡ Some n = sym no_number ∙ x.0 in absurd (cc)
  name_back no_number no_unary no_left (a_name {a = a} {w = w} {index = o} x index is) = ((w, o), is, (a, x, index))
  name_back no_number no_unary no_left (a_group fits a e b) = absurd (no_left a.0)
  name_back no_number no_unary no_left (a_unary {op = op} fits a e) = let e : None ≡ Some op = sym no_unary
      ∙ a.0 in absurd (cc)

  group_back : {e : ExpressionTree} {j : ℕ} → slice_get us i ≡ Some left → IsOperand us limit d i e j
      → Deeper d (Behind left (Ended (d + 1) right)) us limit i e j
  group_back at (a_number {n = n} x) = let f = number_family (slice_get us i) n x.0 in let g : family (slice_get us i)
      ≡ 2 = ap family at in absurd (omega arith)
  group_back at (a_name {w = w} x index is) = let f = name_family (slice_get us i) w.name x.1.0 in let g : family
      (slice_get us i) ≡ 2 = ap family at in absurd (omega arith)
  group_back at (a_group {a = a} {b = b} fits x e y) = (fits, (a, x, (b, e, y)))
  group_back at (a_unary {op = op} fits a e) = let e : None ≡ Some op = ap (option_and_then unary_of) (sym at)
      ∙ a.0 in absurd (cc)

  unary_back : (t : TokenKind) (op : UnaryOperator) {e : ExpressionTree} {j : ℕ} → slice_get us i ≡ Some t
      → unary_of t ≡ Some op → IsOperand us limit d i e j →
      (inner : ExpressionTree) × (e ≡ unary op inner) × Deeper d (Behind t (OneOperand (d + 1))) us limit i inner j
  unary_back t op at is (a_number {n = n} x) =
      let f = number_family (slice_get us i) n x.0 in
      let g = unary_family (slice_get us i) op (ap (option_and_then unary_of) at ∙ is) in absurd (omega arith)
  unary_back t op at is (a_name {w = w} x index same) =
      let f = name_family (slice_get us i) w.name x.1.0 in
      let g = unary_family (slice_get us i) op (ap (option_and_then unary_of) at ∙ is) in absurd (omega arith)
  unary_back t op at is (a_group fits a e b) =
      let e : None ≡ Some op = ap (option_and_then unary_of) (sym a.0)
      ∙ (ap (option_and_then unary_of) at ∙ is) in absurd (cc)
  unary_back t op at is (a_unary {a = k} {op = other} {e = inner} fits a e) =
      let both : Some other ≡ Some op = sym a.0 ∙ (ap (option_and_then unary_of) at ∙ is) in
      let one : other ≡ op = cc in
      (inner, ap (λ o. unary o inner) one, (fits, (k, (at, a.1), e)))

module _ (ts : List TokenKind) (d i : ℕ) where
  pub number_found : (n : ℤ) → i < length ts → option_and_then token_number (slice_get ts i) ≡ Some n
      → RightOperand ts d i (found (number n) (i + 1))
  number_found n lt is = right_as (Item token_number) (OneOperand d) number (λ us limit n j r. a_number r)
      (λ us limit e j at r ends. let b = number_back us limit d i (ap family at ∙ number_family (slice_get ts i) n is)
      r in (b.0, b.1, b.2, tt))
      (found n (i + 1)) (item_found token_number ts i n lt is)

  module _ (no_number : option_and_then token_number (slice_get ts i) ≡ None)
      (no_unary : option_and_then unary_of (slice_get ts i) ≡ None)
      (no_left : slice_get ts i ≡ Some left → ⊥) where
    abbrev refer : Word × Option ExpressionTree → ExpressionTree
    refer p = reference p.0 p.1

    name_as : (o : ParseResult (Word × Option ExpressionTree))
        → Right (At (Seq OneWord (OneIndex d)) i) EndsOperand ts i o → RightOperand ts d i (map_result refer o)
    name_as o x = right_as (Seq OneWord (OneIndex d)) (OneOperand d) refer (λ us limit p j r. a_name r.1 r.2 refl)
        (λ us limit e j at r ends.
        let b = name_back us limit d i (ap (option_and_then token_number) at ∙ no_number)
        (ap (option_and_then unary_of) at ∙ no_unary) (λ is. no_left (sym at ∙ is)) r in
        (b.0, b.1, b.2, ends)) o x

    pub name_stop : (j : ℕ) (why : GrammarFault) → RightWord ts i (stopped j why) → RightOperand ts d i (stopped j why)
    name_stop j why x = name_as (stopped j why) (seq_stop OneWord (OneIndex d) word_framed (index_fills d)
        (λ us limit n b m y ends. tt) x)

    pub name_then : (w : Word) (k : ℕ) → RightWord ts i (found w k) → (o : ParseResult (Option ExpressionTree))
        → RightIndex ts d k o →
        RightOperand ts d i (map_result (reference w) o)
    name_then w k x (found index j) y = name_as (found (w, index) j) (seq_then OneWord (OneIndex d) word_framed
        (λ us limit n b m y ends. tt) x (found index j) y)
    name_then w k x (stopped j why) y = name_as (stopped j why) (seq_then OneWord (OneIndex d) word_framed
        (λ us limit n b m y ends. tt) x (stopped j why) y)

  -- [ [ expr ] ]
  pub without_index : (slice_get ts i ≡ Some open_bracket → ⊥) → i ≤ length ts → RightIndex ts d i (found None i)
  without_index is_not within = record {
    from = omega arith;
    within = within;
    reads = λ limit. no_index;
    decides = λ us limit e j same low r ends. index_none us limit d i (λ is. is_not (same i (omega arith) ∙ is)) r;
  }

  module _ (is : slice_get ts i ≡ Some open_bracket) where
    pub with_index : (o : ParseResult ExpressionTree) → RightBracketed ts d i o → RightIndex ts d i (map_result Some o)
    with_index o x = right_as (Bracketed d) (OneIndex d) Some (λ us limit e j r. an_index r.0 r.1.1 r.1.2.1 r.1.2.2)
        (λ us limit e j at r ends. let b = index_some us limit d i (at ∙ is) ends r in (b.0, b.1, b.2, tt)) o x

    pub bracketed_deep : 64 ≤ d → RightBracketed ts d i (stopped i Depth)
    bracketed_deep deep = deeper_deep d open_bracket (Ended (d + 1) close_bracket)
        (ended_fills (d + 1) close_bracket) is deep

    pub bracketed_then : d < 64 → (o : ParseResult ExpressionTree)
        → Right (At (Ended (d + 1) close_bracket) (i + 1)) Anywhere ts (i + 1) o → RightBracketed ts d i o
    bracketed_then fits o x = deeper_then d (Behind open_bracket (Ended (d + 1) close_bracket)) fits o
        (behind_then open_bracket (Ended (d + 1) close_bracket) (token_found open_bracket ts i is) o x)

  group_as : slice_get ts i ≡ Some left → (o : ParseResult ExpressionTree)
      → Right (At (Deeper d (Behind left (Ended (d + 1) right))) i) Anywhere ts i o → RightOperand ts d i o
  group_as is o x = right_same (Deeper d (Behind left (Ended (d + 1) right))) (OneOperand d)
      (λ us limit e j r. a_group r.0 r.1.1 r.1.2.1 r.1.2.2) (λ us limit e j at r ends.
      (group_back us limit d i (at ∙ is) r, tt)) o x

  pub group_deep : slice_get ts i ≡ Some left → 64 ≤ d → RightOperand ts d i (stopped i Depth)
  group_deep is deep = group_as is (stopped i Depth) (deeper_deep d left (Ended (d + 1) right)
      (ended_fills (d + 1) right) is deep)

  pub group_then : slice_get ts i ≡ Some left → d < 64 → (o : ParseResult ExpressionTree)
      → Right (At (Ended (d + 1) right) (i + 1)) Anywhere ts (i + 1) o → RightOperand ts d i o
  group_then is fits o x = group_as is o (deeper_then d (Behind left (Ended (d + 1) right)) fits o
      (behind_then left (Ended (d + 1) right) (token_found left ts i is) o x))

  module _ (op : UnaryOperator) (is : option_and_then unary_of (slice_get ts i) ≡ Some op) where
    abbrev sign : (t : TokenKind) × (slice_get ts i ≡ Some t) × (unary_of t ≡ Some op)
    sign = token_there unary_of (slice_get ts i) op is

    abbrev Signed : Rel ExpressionTree
    Signed = Behind sign.0 (OneOperand (d + 1))

    unary_as : (o : ParseResult ExpressionTree) → Right (At (Deeper d Signed) i) EndsOperand ts i o
        → RightOperand ts d i (map_result (unary op) o)
    unary_as o x = right_as (Deeper d Signed) (OneOperand d) (unary op)
        (λ us limit e j r. a_unary r.0 (ap (option_and_then unary_of) r.1.1.0 ∙ sign.2, r.1.1.1) r.1.2)
        (λ us limit e j at r ends. let b = unary_back us limit d i sign.0 op (at ∙ sign.1) sign.2 r in
        (b.0, b.1, b.2, ends)) o x

    pub unary_deep : 64 ≤ d → RightOperand ts d i (stopped i Depth)
    unary_deep deep = unary_as (stopped i Depth) (deeper_deep d sign.0 (OneOperand (d + 1))
        (operand_fills (d + 1)) sign.1 deep)

    pub unary_then : d < 64 → (o : ParseResult ExpressionTree) → RightOperand ts (d + 1) (i + 1) o
        → RightOperand ts d i (map_result (unary op) o)
    unary_then fits o x = unary_as o (deeper_then d Signed fits o (behind_then sign.0 (OneOperand (d + 1))
        (token_found sign.0 ts i sign.1) o x))

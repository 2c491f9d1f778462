-- The tokens of bodies name the service calls of their trees, in order.
use Rattle.std.proofs.Common.{◌≡◌, ℕ, ℤ, ◌+◌, Bool, true, false, List, [], ◌∷◌, ◌++◌, length, map, drop, slice_get}
use Rattle.std.proofs.Common.{Option}
use Rattle.std.proofs.Common.{Some, None, option_and_then, is_some, cond, refl, sym, ap, ap₂, subst, ◌∙◌, append_assoc}
use Rattle.std.proofs.Common.{append-nil, arith}
use Rattle.std.proofs.lemmas.Option.{get_or_from_slice_get, slice_get_within}
use Rattle.fmp_base.specs.declared.names.Name.{Name}
use Rattle.fmp_base.specs.declared.operators.UnaryOperator.{UnaryOperator}
use Rattle.fmp_base.specs.declared.services.Service.{Service}
use Rattle.fmp_base.specs.declared.words.Keyword.TheVariants as keyword
use Rattle.fmp_lex.specs.declared.marks.Mark.{Mark}
use Rattle.fmp_lex.specs.declared.marks.Mark.TheVariants as mark
use Rattle.fmp_lex.specs.declared.token.Symbol.{Symbol}
use Rattle.fmp_lex.specs.declared.token.Symbol.TheVariants as symbol
use Rattle.fmp_lex.specs.declared.token.TokenKind.{TokenKind}
use Rattle.fmp_lex.specs.declared.token.TokenKind.TheVariants as kind
use Rattle.fmp_lex.specs.Forms.{mark_kind}
use Rattle.fmp_lex.specs.Reading.{IsToken, IsItem, IsWhole, Star}
use Rattle.fmp_tasklang.specs.declared.forms.CallPart.{CallPart}
use Rattle.fmp_tasklang.specs.declared.forms.CallPart.TheVariants as part
use Rattle.fmp_tasklang.specs.declared.trees.BodyKind.{BodyKind}
use Rattle.fmp_tasklang.specs.declared.trees.Declaration.{Declaration}
use Rattle.fmp_tasklang.specs.declared.trees.Length.{Length}
use Rattle.fmp_tasklang.specs.declared.trees.Operator.{Operator}
use Rattle.fmp_tasklang.specs.declared.trees.Word.{Word}
use Rattle.fmp_tasklang.specs.Blocks.{block_of, choice}
use Rattle.fmp_tasklang.specs.Calls.{service_of, call_parts, ArgumentTree, value, out, Called, OnePart, Parts}
use Rattle.fmp_tasklang.specs.Calls.{OneCall}
use Rattle.fmp_tasklang.specs.Expressions.{token_number, name_of, unary_of, operator_of, IsWord, IsOperand, a_number}
use Rattle.fmp_tasklang.specs.Expressions.{a_name, a_group, a_unary, IsIndex, no_index, an_index, IsExpression}
use Rattle.fmp_tasklang.specs.Expressions.{an_operand, a_chain, AreLinks, no_link, a_link}
use Rattle.fmp_tasklang.specs.Grammar.{body_kind_of, number_of, OneLength, OneVariable, OneBody, Bodies}
use Rattle.fmp_tasklang.specs.Statements.{jump_of, IsCondition, IsBracketed, IsResult, IsStatement, an_assignment}
use Rattle.fmp_tasklang.specs.Statements.{an_element_assignment, a_call, a_jump, an_if, a_while, IsIf, if_chosen}
use Rattle.fmp_tasklang.specs.Statements.{IsElse}
use Rattle.fmp_tasklang.specs.Statements.{no_else, an_else, IsOther, a_block, another_if, IsBlock, braces}
use Rattle.fmp_tasklang.specs.Statements.{AreStatements}
use Rattle.fmp_tasklang.specs.Statements.{no_statement, a_statement}
use Rattle.fmp_tasklang.specs.Trees.{ExpressionTree, StatementTree, Block, BodyTree}
use Rattle.fmp_tasklang.specs.Views.{LinkTree}
use Rattle.fmp_scopes.proofs.Loops.{drop-all, drop-step}
use Rattle.fmp_codegen.specs.Calls.{statement_calls, block_calls, tree_calls, token_calls, calls_to_next, text_calls}

-- ---- one token

-- a token that begins no body and names no service
pub record IsPlain (t : TokenKind) : Type 0 where
  pub no_body : body_kind_of t ≡ None
  pub no_call : token_calls t ≡ []

count_plain : (t : TokenKind) (n : ℤ) → number_of t ≡ Some n → IsPlain t
count_plain (kind.Number x) n e = record { no_body = refl; no_call = refl }
count_plain _ n e = absurd (cc)

number_plain : (t : TokenKind) (n : ℤ) → token_number t ≡ Some n → IsPlain t
number_plain (kind.Number x) n e = record { no_body = refl; no_call = refl }
number_plain (kind.Constant x) n e = record { no_body = refl; no_call = refl }
number_plain _ n e = absurd (cc)

name_plain : (t : TokenKind) (n : Name) → name_of t ≡ Some n → IsPlain t
name_plain (kind.Name x) n e = record { no_body = refl; no_call = refl }
name_plain _ n e = absurd (cc)

unary_plain : (t : TokenKind) (op : UnaryOperator) → unary_of t ≡ Some op → IsPlain t
unary_plain (kind.Symbol x) op e = record { no_body = refl; no_call = refl }
unary_plain _ op e = absurd (cc)

operator_plain : (t : TokenKind) (op : ℕ × Operator) → operator_of t ≡ Some op → IsPlain t
operator_plain (kind.Symbol x) op e = record { no_body = refl; no_call = refl }
operator_plain _ op e = absurd (cc)

jump_plain : (loop : Bool) (t : TokenKind) (s : StatementTree) → jump_of loop t ≡ Some s → IsPlain t
jump_plain true (kind.Keyword keyword.Break) s e = record { no_body = refl; no_call = refl }
jump_plain true (kind.Keyword keyword.Continue) s e = record { no_body = refl; no_call = refl }
jump_plain true (kind.Keyword keyword.Return) s e = record { no_body = refl; no_call = refl }
jump_plain true _ s e = absurd (cc)
jump_plain false (kind.Keyword keyword.Return) s e = record { no_body = refl; no_call = refl }
jump_plain false _ s e = absurd (cc)

mark_plain : (m : Mark) → IsPlain (mark_kind m)
mark_plain mark.Null = record { no_body = refl; no_call = refl }
mark_plain _ = record { no_body = refl; no_call = refl }

-- a jump calls nothing
abbrev CallsNothing : Option StatementTree → Type 0
CallsNothing None = Unit {0}
CallsNothing (Some s) = statement_calls s ≡ []

jump_calls : (loop : Bool) (t : TokenKind) → CallsNothing (jump_of loop t)
jump_calls true (kind.Keyword keyword.Break) = refl
jump_calls true (kind.Keyword keyword.Continue) = refl
jump_calls true (kind.Keyword keyword.Return) = refl
jump_calls false (kind.Keyword keyword.Return) = refl
jump_calls _ _ = tt

jump_calls_at : (loop : Bool) (o : Option TokenKind) → CallsNothing (option_and_then (jump_of loop) o)
jump_calls_at loop None = tt
jump_calls_at loop (Some t) = jump_calls loop t

-- an `if` calls what its blocks call
abbrev else_calls : Option Block → List Service
else_calls None = []
else_calls (Some b) = block_calls b

choice_calls :
    (e : ExpressionTree) (body : Block) (other : Option Block) →
    block_calls body ++ else_calls other ≡ statement_calls (choice e body other)
choice_calls e body None = append-nil (block_calls body)
choice_calls e body (Some b) = refl

module _ (ts : List TokenKind) where
  -- the tokens from i up to j name these services, and none of them begins a body
  pub record Names (i : ℕ) (calls : List Service) (j : ℕ) : Type 0 where
    pub here : calls_to_next (drop i ts) ≡ calls ++ calls_to_next (drop j ts)
    pub text : text_calls (drop i ts) ≡ text_calls (drop j ts)

  names_none : (i : ℕ) → Names i [] i
  names_none i = record { here = refl; text = refl }

  names_then : {i k j : ℕ} {a b : List Service} → Names i a k → Names k b j → Names i (a ++ b) j
  names_then {j = j} {a = a} {b = b} x y = record {
    here = x.here ∙ ap (λ cs. a ++ cs) y.here ∙ sym (append_assoc a b (calls_to_next (drop j ts)));
    text = x.text ∙ y.text;
  }

  names_over : {i k j : ℕ} {b : List Service} → Names i [] k → Names k b j → Names i b j
  names_over x y = names_then x y

  names_last : {i k j : ℕ} {a : List Service} → Names i a k → Names k [] j → Names i a j
  names_last {i = i} {j = j} {a = a} x y = subst (λ cs. Names i cs j) (append-nil a) (names_then x y)

  from_token :
      (i : ℕ) (t : TokenKind) → slice_get ts i ≡ Some t → drop i ts ≡ t ∷ drop (i + 1) ts
  from_token i t at = drop-step ts i t (slice_get_within ts i t at) (sym (get_or_from_slice_get ts i t t at))

  token_here :
      (i : ℕ) (t : TokenKind) → slice_get ts i ≡ Some t → body_kind_of t ≡ None → Names i (token_calls t) (i + 1)
  token_here i t at plain =
      let rest = drop (i + 1) ts in
      record {
        here =
            ap calls_to_next (from_token i t at)
            ∙ ap (λ (o : Option BodyKind). cond (is_some o) [] (token_calls t ++ calls_to_next rest)) plain;
        text =
            ap text_calls (from_token i t at)
            ∙ ap (λ (o : Option BodyKind). cond (is_some o) (calls_to_next rest ∷ text_calls rest)
            (text_calls rest)) plain;
      }

  plain_names : (t : TokenKind) (i j : ℕ) → IsToken ts t i j → IsPlain t → Names i [] j
  plain_names t i j x plain =
      subst (λ k. Names i [] k) (sym x.1)
      (subst (λ cs. Names i cs (i + 1)) plain.no_call (token_here i t x.0 plain.no_body))

  symbol_names : (s : Symbol) (i j : ℕ) → IsToken ts (kind.Symbol s) i j → Names i [] j
  symbol_names s i j x = plain_names (kind.Symbol s) i j x (record { no_body = refl; no_call = refl })

  module _ {A : Type 0} (read : TokenKind → Option A) (plain : (t : TokenKind) (a : A) → read t ≡ Some a → IsPlain t)
    where
      item_found :
          (i : ℕ) (a : A) (o : Option TokenKind) → slice_get ts i ≡ o → option_and_then read o ≡ Some a →
          Names i [] (i + 1)
      item_found i a None at e = absurd (cc)
      item_found i a (Some t) at e = plain_names t i (i + 1) (at, refl) (plain t a e)

      item_names : (i : ℕ) (a : A) (j : ℕ) → IsItem read ts i a j → Names i [] j
      item_names i a j x = subst (λ k. Names i [] k) (sym x.1) (item_found i a (slice_get ts i) refl x.0)

  service_found :
      (i : ℕ) (s : Service) (o : Option TokenKind) → slice_get ts i ≡ o → option_and_then service_of o ≡ Some s →
      Names i (s ∷ []) (i + 1)
  service_found i s (Some (kind.Service r)) at e =
      let same : r ≡ s = cc in
      subst (λ x. Names i (x ∷ []) (i + 1)) same (token_here i (kind.Service r) at refl)
  service_found i s _ at e = absurd (cc)

  service_names : (i : ℕ) (s : Service) (j : ℕ) → IsItem service_of ts i s j → Names i (s ∷ []) j
  service_names i s j x = subst (λ k. Names i (s ∷ []) k) (sym x.1) (service_found i s (slice_get ts i) refl x.0)

  word_names : (i : ℕ) (w : Word) (j : ℕ) → IsWord ts i w j → Names i [] j
  word_names i w j x = item_names name_of name_plain i w.name j x.1

  -- ---- expressions and calls

  module _ (limit : ℕ) where
    mutual
      operand_names : {d i : ℕ} {e : ExpressionTree} {j : ℕ} → IsOperand ts limit d i e j → Names i [] j
      operand_names (a_number {i = i} {j = j} {n = n} x) = item_names token_number number_plain i n j x
      operand_names (a_name {i = i} {a = a} {w = w} x index is) = names_over (word_names i w a x) (index_names index)
      operand_names (a_group {i = i} {a = a} {b = b} {j = j} allows left e right) =
          names_over (symbol_names symbol.LeftParen i a left)
          (names_over (expression_names e) (symbol_names symbol.RightParen b j right))
      operand_names (a_unary {i = i} {a = a} {op = op} allows x e) =
          names_over (item_names unary_of unary_plain i op a x) (operand_names e)

      index_names : {d i : ℕ} {o : Option ExpressionTree} {j : ℕ} → IsIndex ts limit d i o j → Names i [] j
      index_names (no_index {i = i}) = names_none i
      index_names (an_index {i = i} {a = a} {b = b} {j = j} allows left e right) =
          names_over (symbol_names symbol.LeftBracket i a left)
          (names_over (expression_names e) (symbol_names symbol.RightBracket b j right))

      expression_names : {d l i : ℕ} {e : ExpressionTree} {j : ℕ} → IsExpression ts limit d l i e j → Names i [] j
      expression_names (an_operand level e) = operand_names e
      expression_names (a_chain level first links is) = names_over (expression_names first) (links_names links)

      links_names : {d m i : ℕ} {ls : List LinkTree} {j : ℕ} → AreLinks ts limit d m i ls j → Names i [] j
      links_names (no_link {i = i}) = names_none i
      links_names (a_link {m = m} {i = i} {a = a} {l = l} op e rest) =
          names_over (item_names operator_of operator_plain i (m, l.operator) a op)
          (names_over (expression_names e) (links_names rest))

    mark_names : (m : Mark) (i j : ℕ) → IsToken ts (mark_kind m) i j → Names i [] j
    mark_names m i j x = plain_names (mark_kind m) i j x (mark_plain m)

    module _ (d : ℕ) where
      part_names :
          (p : CallPart) (i : ℕ) (o : Option ArgumentTree) (j : ℕ) → OnePart d p ts limit i o j → Names i [] j
      part_names (part.Mark m) i None j x = mark_names m i j x
      part_names (part.Mark m) i (Some (value e)) j x = absurd x
      part_names (part.Mark m) i (Some (out w)) j x = absurd x
      part_names (part.Value m) i None j x = absurd x
      part_names (part.Value m) i (Some (value e)) j x = names_over (expression_names x.1) (mark_names m x.0 j x.2)
      part_names (part.Value m) i (Some (out w)) j x = absurd x
      part_names (part.Out m) i None j x = absurd x
      part_names (part.Out m) i (Some (value e)) j x = absurd x
      part_names (part.Out m) i (Some (out w)) j x =
          names_over (symbol_names symbol.And i x.0 x.1)
          (names_over (word_names x.0 w x.2.0 x.2.1) (mark_names m x.2.0 j x.2.2))

      parts_names :
          (ps : List CallPart) (i : ℕ) (args : List ArgumentTree) (j : ℕ) → Parts d ps ts limit i args j →
          Names i [] j
      parts_names [] i args j x = subst (λ k. Names i [] k) (sym x.1) (names_none i)
      parts_names (p ∷ ps) i args j x = names_over (part_names p i x.0 x.3 x.4) (parts_names ps x.3 x.1 j x.5)

      call_names : (c : Called) (i j : ℕ) → OneCall d ts limit i c j → Names i (c.service ∷ []) j
      call_names c i j x =
          names_last (service_names i c.service x.2 x.3) (parts_names (call_parts c.service) x.2 x.0 j x.4)

      condition_names : (i : ℕ) (e : ExpressionTree) (j : ℕ) → IsCondition ts limit d i e j → Names i [] j
      condition_names i e j x =
          names_over (symbol_names symbol.LeftParen i x.0 x.1)
          (names_over (expression_names x.2.1) (symbol_names symbol.RightParen x.2.0 j x.2.2))

      bracketed_names : (i : ℕ) (e : ExpressionTree) (j : ℕ) → IsBracketed ts limit d i e j → Names i [] j
      bracketed_names i e j x =
          names_over (symbol_names symbol.LeftBracket i x.1.0 x.1.1)
          (names_over (expression_names x.1.2.1) (symbol_names symbol.RightBracket x.1.2.0 j x.1.2.2))

    result_names : (i : ℕ) (o : Option Word) (j : ℕ) → IsResult ts limit i o j → Names i [] j
    result_names i None j x = subst (λ k. Names i [] k) (sym x) (names_none i)
    result_names i (Some w) j x = names_over (word_names i w x.0 x.1) (symbol_names symbol.Assign x.0 j x.2)

    -- ---- statements

    mutual
      statement_names :
          {d : ℕ} {loop : Bool} {i : ℕ} {s : StatementTree} {j : ℕ} → IsStatement ts limit d loop i s j →
          Names i (statement_calls s) j
      statement_names (an_assignment {i = i} {b = b} {j = j} {w = w} a r e semi) =
          names_over (result_names i (Some w) a r)
          (names_over (expression_names e) (symbol_names symbol.Semicolon b j semi))
      statement_names
          (an_element_assignment {d = d} {i = i} {b = b} {c = c} {k = k} {j = j} {w = w} {index = index} a x brackets eq
          e semi) =
          names_over (word_names i w a x)
          (names_over (bracketed_names d a index b brackets)
          (names_over (symbol_names symbol.Assign b c eq)
          (names_over (expression_names e) (symbol_names symbol.Semicolon k j semi))))
      statement_names (a_call {d = d} {i = i} {j = j} r a c b res call semi is) =
          subst (λ s. Names i (statement_calls s) j) (sym is)
          (names_over (result_names i r a res)
          (names_last (call_names d c a b call) (symbol_names symbol.Semicolon b j semi)))
      statement_names (a_jump {i = i} {a = a} {j = j} {loop = loop} {s = s} x semi) =
          let none : statement_calls s ≡ [] = subst CallsNothing x.0 (jump_calls_at loop (slice_get ts i)) in
          subst (λ cs. Names i cs j) (sym none)
          (names_over (item_names (jump_of loop) (jump_plain loop) i s a x) (symbol_names symbol.Semicolon a j semi))
      statement_names (an_if s) = if_names s
      statement_names (a_while {d = d} {i = i} {a = a} {b = b} {e = e} x test body) =
          names_over (plain_names (kind.Keyword keyword.While) i a x (record { no_body = refl; no_call = refl }))
          (names_over (condition_names d a e b test) (block_names body))

      if_names :
          {d : ℕ} {loop : Bool} {i : ℕ} {s : StatementTree} {j : ℕ} → IsIf ts limit d loop i s j →
          Names i (statement_calls s) j
      if_names (if_chosen {d = d} {i = i} {a = a} {b = b} {j = j} {e = e} {body = body} {other = other} x test block
          els is) =
          let chosen = names_then (block_names block) (else_names els) in
          subst (λ cs. Names i cs j) (choice_calls e body other ∙ ap statement_calls (sym is))
          (names_over (plain_names (kind.Keyword keyword.If) i a x (record { no_body = refl; no_call = refl }))
          (names_over (condition_names d a e b test) chosen))

      else_names :
          {d : ℕ} {loop : Bool} {i : ℕ} {o : Option Block} {j : ℕ} → IsElse ts limit d loop i o j →
          Names i (else_calls o) j
      else_names (no_else {i = i}) = names_none i
      else_names (an_else {i = i} {a = a} x other) =
          names_over (plain_names (kind.Keyword keyword.Else) i a x (record { no_body = refl; no_call = refl }))
          (other_names other)

      other_names :
          {d : ℕ} {loop : Bool} {i : ℕ} {b : Block} {j : ℕ} → IsOther ts limit d loop i b j → Names i (block_calls b) j
      other_names (a_block b) = block_names b
      other_names (another_if {i = i} {j = j} {s = s} allows f is) =
          subst (λ b. Names i (block_calls b) j) (sym is) (names_then (if_names f) (names_none j))

      block_names :
          {d : ℕ} {loop : Bool} {i : ℕ} {b : Block} {j : ℕ} → IsBlock ts limit d loop i b j → Names i (block_calls b) j
      block_names (braces {i = i} {a = a} {b = b} {j = j} allows left ss right is) =
          subst (λ x. Names i (block_calls x) j) (sym is)
          (names_over (symbol_names symbol.LeftBrace i a left)
          (names_last (statements_names ss) (symbol_names symbol.RightBrace b j right)))

      statements_names :
          {d : ℕ} {loop : Bool} {i : ℕ} {ss : List StatementTree} {j : ℕ} → AreStatements ts limit d loop i ss j →
          Names i (block_calls (block_of ss)) j
      statements_names (no_statement {i = i}) = names_none i
      statements_names (a_statement s rest) = names_then (statement_names s) (statements_names rest)

    -- ---- bodies

    length_names : (i : ℕ) (o : Option Length) (j : ℕ) → OneLength ts limit i o j → Names i [] j
    length_names i None j x = subst (λ k. Names i [] k) (sym x) (names_none i)
    length_names i (Some l) j x =
        names_over (symbol_names symbol.LeftBracket i x.0 x.1)
        (names_over (item_names number_of count_plain x.0 l.places x.2.0 x.2.1.1)
        (symbol_names symbol.RightBracket x.2.0 j x.2.2))

    variable_names : (i : ℕ) (v : Declaration) (j : ℕ) → OneVariable ts limit i v j → Names i [] j
    variable_names i v j x =
        names_over (plain_names (kind.Keyword keyword.Var) i x.0 x.1 (record { no_body = refl; no_call = refl }))
        (names_over (word_names x.0 v.name x.2.0 x.2.1)
        (names_over (length_names x.2.0 v.length x.2.2.0 x.2.2.1)
        (symbol_names symbol.Semicolon x.2.2.0 j x.2.2.2)))

    variables_names : (i : ℕ) (vs : List Declaration) (j : ℕ) → Star OneVariable ts limit i vs j → Names i [] j
    variables_names i [] j x = subst (λ k. Names i [] k) (sym x) (names_none i)
    variables_names i (v ∷ vs) j x = names_over (variable_names i v x.0 x.1) (variables_names x.0 vs j x.2)

    -- what stands from the word on that begins a body
    pub record BeginsBody (i : ℕ) : Type 0 where
      pub here : calls_to_next (drop i ts) ≡ []
      pub text : text_calls (drop i ts) ≡ calls_to_next (drop (i + 1) ts) ∷ text_calls (drop (i + 1) ts)

    body_here : (i : ℕ) (t : TokenKind) (k : BodyKind) → slice_get ts i ≡ Some t → body_kind_of t ≡ Some k
        → BeginsBody i
    body_here i t k at is =
        let rest = drop (i + 1) ts in
        record {
          here =
              ap calls_to_next (from_token i t at)
              ∙ ap (λ (o : Option BodyKind). cond (is_some o) [] (token_calls t ++ calls_to_next rest)) is;
          text =
              ap text_calls (from_token i t at)
              ∙ ap (λ (o : Option BodyKind). cond (is_some o) (calls_to_next rest ∷ text_calls rest) (text_calls rest))
              is;
        }

    body_found :
        (i : ℕ) (k : BodyKind) (o : Option TokenKind) → slice_get ts i ≡ o → option_and_then body_kind_of o ≡ Some k →
        BeginsBody i
    body_found i k None at e = absurd (cc)
    body_found i k (Some t) at e = body_here i t k at e

    body_names : (i : ℕ) (b : BodyTree) (j : ℕ) → OneBody ts limit i b j → Names (i + 1) (tree_calls b) j
    body_names i b j x =
        let named : Names (i + 1) [] x.3 = subst (λ k. Names k [] x.3) x.2.1 (word_names x.1 b.name x.3 x.4) in
        let statements : Names x.7 (tree_calls b) x.11 =
        subst (λ s. Names x.7 (block_calls s) x.11) (sym x.10) (statements_names x.12) in
        names_over named
        (names_over (symbol_names symbol.LeftBrace x.3 x.5 x.6)
        (names_over (variables_names x.5 b.variables x.7 x.8)
        (names_last statements (symbol_names symbol.RightBrace x.11 j x.13))))

    bodies_name :
        (bs : List BodyTree) (i j : ℕ) → Bodies ts limit i bs j → j ≡ length ts →
        (calls_to_next (drop i ts) ≡ []) × (text_calls (drop i ts) ≡ map tree_calls bs)
    bodies_name [] i j x end =
        let past : drop i ts ≡ [] = drop-all ts i (omega arith) in
        (ap calls_to_next past, ap text_calls past)
    bodies_name (b ∷ bs) i j x end =
        let begins = body_found i b.kind (slice_get ts i) refl x.1.2.0 in
        let named = body_names i b x.0 x.1 in
        let rest = bodies_name bs x.0 j x.2 end in
        let calls : calls_to_next (drop (i + 1) ts) ≡ tree_calls b =
        named.here ∙ ap (λ cs. tree_calls b ++ cs) rest.0 ∙ append-nil (tree_calls b) in
        (begins.here, begins.text ∙ ap₂ (λ c cs. c ∷ cs) calls (named.text ∙ rest.1))

pub tokens_name :
    (ts : List TokenKind) (bodies : List BodyTree) → IsWhole Bodies ts bodies → text_calls ts ≡ map tree_calls bodies
tokens_name ts bodies x = (bodies_name ts (length ts) bodies 0 (length ts) x refl).1

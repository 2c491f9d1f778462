-- A list of tokens spells at most one program: what is read in it is what a reader has to find.
use Rattle.std.proofs.Common.{◌≡◌, ℕ, ◌+◌, ◌<◌, ◌≤◌, Bool, false, List, [], ◌∷◌, length, slice_get, Option, Some, None}
use Rattle.std.proofs.Common.{option_and_then, refl, sym, ap, subst, ◌∙◌, arith}
use Rattle.std.proofs.lemmas.Option.{slice_get_within}
use Rattle.fmp_lex.specs.declared.token.TokenKind.{TokenKind}
use Rattle.fmp_lex.specs.Reading.{Star, IsToken, found, RightToken, IsWhole}
use Rattle.fmp_lex.proofs.Sequences.{token_found}
use Rattle.fmp_lex.specs.Forms.{mark_kind}
use Rattle.fmp_tasklang.specs.declared.forms.CallPart.{CallPart}
use Rattle.fmp_tasklang.specs.declared.forms.CallPart.TheVariants as part
use Rattle.fmp_tasklang.specs.declared.trees.Declaration.{Declaration}
use Rattle.fmp_tasklang.specs.declared.trees.Length.{Length}
use Rattle.fmp_tasklang.specs.declared.trees.Word.{Word}
use Rattle.fmp_tasklang.specs.Trees.{ExpressionTree, number, StatementTree, service_call, Block, BodyTree}
use Rattle.fmp_tasklang.specs.Views.{LinkTree}
use Rattle.fmp_tasklang.specs.Expressions.{token_number, name_of, unary_of, loosest, IsWord, IsOperand, a_number}
use Rattle.fmp_tasklang.specs.Expressions.{a_name, a_group, a_unary, IsIndex, no_index, an_index, IsExpression}
use Rattle.fmp_tasklang.specs.Expressions.{an_operand, a_chain, AreLinks, no_link, a_link}
use Rattle.fmp_tasklang.specs.Calls.{service_of, call_parts, ArgumentTree, value, out, Called, called, call_tree}
use Rattle.fmp_tasklang.specs.Calls.{OnePart, Parts, OneCall}
use Rattle.fmp_tasklang.specs.Statements.{jump_of, IsCondition, IsBracketed, IsStatement, an_assignment}
use Rattle.fmp_tasklang.specs.Statements.{an_element_assignment, a_call, a_jump, an_if, a_while, IsIf, if_chosen}
use Rattle.fmp_tasklang.specs.Statements.{IsElse, no_else, an_else, IsOther, a_block, another_if, IsBlock, braces}
use Rattle.fmp_tasklang.specs.Statements.{AreStatements, no_statement, a_statement}
use Rattle.fmp_tasklang.specs.Grammar.{body_kind_of, number_of, OneLength, OneVariable, OneBody, Bodies}
use Rattle.fmp_tasklang.specs.Reading.{EndsOperand, EndsExpression, EndsElse, EndsStatements, EndsVariables, EndsBodies}
use Rattle.fmp_tasklang.specs.Reading.{RightWord, RightOperand, RightExpression, RightLinks, RightPart, RightParts}
use Rattle.fmp_tasklang.specs.Reading.{RightCall, RightCondition, assigned, by_value, by_call, changed, to_variable}
use Rattle.fmp_tasklang.specs.Reading.{to_element, OneCount, RightIndex, RightBracketed, RightCount, RightLength}
use Rattle.fmp_tasklang.specs.Reading.{RightStatement, RightIf, RightElse, RightOther, RightBlock, RightStatements}
use Rattle.fmp_tasklang.specs.Reading.{RightVariable, RightVariables, RightBody, RightBodies}
use Rattle.fmp_tasklang.proofs.Layers.{token_there}
use Rattle.fmp_tasklang.proofs.Operands.{left, right, open_bracket, close_bracket, word_here, word_found, number_found}
use Rattle.fmp_tasklang.proofs.Operands.{name_then, without_index, with_index, bracketed_then, index_up, group_then}
use Rattle.fmp_tasklang.proofs.Operands.{unary_then, ended_then, closes, links_up}
use Rattle.fmp_tasklang.proofs.Links.{expression_zero, chain_then, links_follow, links_more, links_none, to_star}
use Rattle.fmp_tasklang.proofs.Arguments.{ampersand, mark_closes, mark_as, value_found, out_found, parts_then}
use Rattle.fmp_tasklang.proofs.Arguments.{parts_none, arguments_as, call_as}
use Rattle.fmp_tasklang.proofs.Families.{family, service_family, name_excludes, name_starts}
use Rattle.fmp_tasklang.proofs.StatementFrames.{open_brace, close_brace, semicolon, equals, if_word, none_begins}
use Rattle.fmp_tasklang.proofs.StatementFrames.{brace_begins_none, statements_up, expression_family}
use Rattle.fmp_tasklang.proofs.StatementFrames as frames
use Rattle.fmp_tasklang.proofs.SimpleStatements.{condition_found, source_call, source_value, source_found}
use Rattle.fmp_tasklang.proofs.SimpleStatements.{element_found, change_variable, change_element, assignment_then}
use Rattle.fmp_tasklang.proofs.SimpleStatements.{plain_found, jump_found}
use Rattle.fmp_tasklang.proofs.StatementPaths.{statement_call, statement_jump, statement_if, statement_assignment}
use Rattle.fmp_tasklang.proofs.StatementPaths.{while_body, if_otherwise, without_else, with_else, block_other, if_other}
use Rattle.fmp_tasklang.proofs.StatementPaths.{block_found, statements_none, statements_more, statements_follow}
use Rattle.fmp_tasklang.proofs.BodyPaths.{var_word, count_here, count_found, length_none, length_found, length_ends}
use Rattle.fmp_tasklang.proofs.BodyPaths.{variable_found, variables_more, variables_none, body_found, bodies_more}
use Rattle.fmp_tasklang.proofs.BodyPaths.{bodies_none, body_framed, ends_there}
use Rattle.fmp_tasklang.proofs.BodyPaths as paths

module _ (ts : List TokenKind) where
  abbrev l : ℕ
  l = length ts

  there : {A : Type 0} (read : TokenKind → Option A) (i : ℕ) (a : A) → option_and_then read (slice_get ts i) ≡ Some a
      → i < l
  there read i a is = let t = token_there read (slice_get ts i) a is in slice_get_within ts i t.0 t.1

  token_right : (t : TokenKind) (i j : ℕ) → IsToken ts t i j → RightToken ts t i (found tt j)
  token_right t i j x = subst (λ k. RightToken ts t i (found tt k)) (sym x.1) (token_found t ts i x.0)

  word_right : (i : ℕ) (w : Word) (j : ℕ) → IsWord ts i w j → RightWord ts i (found w j)
  word_right i w j x =
      let same : word_here i w.name ≡ w = ap (λ n. record { name = w.name; at = n }) (sym x.0) in
      let base = word_found ts i w.name (there name_of i w.name x.1.0) x.1.0 in
      subst (λ k. RightWord ts i (found w k)) (sym x.1.1) (subst (λ v. RightWord ts i (found v (i + 1))) same base)

  bracketed_right : (d i a b : ℕ) (e : ExpressionTree) (j : ℕ) → (i < l → d < 64) → IsToken ts open_bracket i a
      → RightExpression ts (d + 1) loosest a (found e b) →
      IsToken ts close_bracket b j → RightBracketed ts d i (found e j)
  bracketed_right d i a b e j fits x r y =
      bracketed_then ts d i x.0 (fits (slice_get_within ts i open_bracket x.0)) (found e j)
      (ended_then (d + 1) close_bracket (refl, refl) ts (i + 1) e b
      (subst (λ n. RightExpression ts (d + 1) loosest n (found e b)) x.1 r) (found tt j)
      (token_right close_bracket b j y))

  mutual
    operand_right : {d i : ℕ} {e : ExpressionTree} {j : ℕ} → IsOperand ts l d i e j → EndsOperand ts j → j ≤ l
        → RightOperand ts d i (found e j)
    operand_right {d = d} {i = i} {j = j} (a_number {n = n} x) ends within =
        subst (λ k. RightOperand ts d i (found (number n) k)) (sym x.1)
        (number_found ts d i n (there token_number i n x.0) x.0)
    operand_right {d = d} {i = i} {j = j} (a_name {a = a} {w = w} {index = index} x y is) ends within =
        let no = name_excludes (slice_get ts i) w.name x.1.0 in
        subst (λ t. RightOperand ts d i (found t j)) (sym is)
        (name_then ts d i no.0 no.1 no.2 w a (word_right i w a x) (found index j) (index_right y ends within))
    operand_right {d = d} {i = i} {e = e} {j = j} (a_group {a = a} {b = b} fits x inner y) ends within =
        let lt = slice_get_within ts i left x.0 in
        let lb = slice_get_within ts b right y.0 in
        let r = expression_right inner (closes right (refl, refl) ts 0 b tt j y tt) (omega arith) in
        group_then ts d i x.0 (fits lt) (found e j) (ended_then (d + 1) right (refl, refl) ts (i + 1) e b
        (subst (λ n. RightExpression ts (d + 1) loosest n (found e b)) x.1 r) (found tt j) (token_right right b j y))
    operand_right {d = d} {i = i} {j = j} (a_unary {a = a} {op = op} {e = e} fits x inner) ends within =
        let lt = there unary_of i op x.0 in
        unary_then ts d i op x.0 (fits lt) (found e j) (subst (λ n. RightOperand ts (d + 1) n (found e j)) x.1
        (operand_right inner ends within))

    index_right : {d i : ℕ} {o : Option ExpressionTree} {j : ℕ} → IsIndex ts l d i o j → EndsOperand ts j → j ≤ l
        → RightIndex ts d i (found o j)
    index_right {d = d} {i = i} no_index ends within = without_index ts d i ends within
    index_right {d = d} {i = i} {j = j} (an_index {a = a} {b = b} {e = e} fits x inner y) ends within =
        let lb = slice_get_within ts b close_bracket y.0 in
        with_index ts d i x.0 (found e j) (bracketed_right d i a b e j fits x
        (expression_right inner (closes close_bracket (refl, refl) ts 0 b tt j y tt) (omega arith)) y)

    pub expression_right : {d m i : ℕ} {e : ExpressionTree} {j : ℕ} → IsExpression ts l d m i e j
        → EndsExpression m ts j → j ≤ l → RightExpression ts d m i (found e j)
    expression_right {d = d} {m = m} {i = i} {e = e} {j = j} (an_operand z x) ends within = expression_zero ts d m i z
        (found e j) (operand_right x ends.0 within)
    expression_right {d = d} {m = m} {i = i} {e = e} {j = j} (a_chain {m = n} {a = a} {first = first} {links = links}
        z x more is) ends within =
        let after : EndsExpression (n + 1) ts j = subst (λ k. EndsExpression k ts j) z ends in
        let up = links_up ts l more in
        let r = expression_right x (links_follow d n ts l a links j (to_star ts l d n more) after) (omega arith) in
        subst (λ t. RightExpression ts d m i (found t j)) (sym is) (chain_then d n ts m i z first a r (found links j)
        (links_right more after within))

    links_right : {d m i : ℕ} {links : List LinkTree} {j : ℕ} → AreLinks ts l d m i links j
        → EndsExpression (m + 1) ts j → j ≤ l → RightLinks ts d m i (found links j)
    links_right {d = d} {m = m} {i = i} no_link ends within = links_none d m ts i
        (λ op is. let le = ends.1 m op is in absurd (omega arith)) within
    links_right {d = d} {m = m} {i = i} {j = j} (a_link {a = a} {b = b} {l = k} {links = links} x e more) ends within =
        let up = links_up ts l more in
        let r = expression_right e (links_follow d m ts l b links j (to_star ts l d m more) ends) (omega arith) in
        links_more d m ts i k.operator x.0 k.operand b (subst (λ n. RightExpression ts d m n (found k.operand b)) x.1
        r) (found links j) (links_right more ends within)

  part_right : (d : ℕ) (p : CallPart) (i : ℕ) (a : Option ArgumentTree) (j : ℕ) → OnePart d p ts l i a j
      → RightPart ts d p i (found a j)
  part_right d (part.Mark m) i None j x = mark_as d ts i m (found tt j) (token_right (mark_kind m) i j x)
  part_right d (part.Mark m) i (Some (value e)) j x = absurd x
  part_right d (part.Mark m) i (Some (out w)) j x = absurd x
  part_right d (part.Value m) i None j x = absurd x
  part_right d (part.Value m) i (Some (value e)) j x =
      let lb = slice_get_within ts x.0 (mark_kind m) x.2.0 in
      value_found d ts i m e x.0 (expression_right x.1 (closes (mark_kind m) (mark_closes m) ts 0 x.0 tt j x.2 tt)
      (omega arith)) j (token_right (mark_kind m) x.0 j x.2)
  part_right d (part.Value m) i (Some (out w)) j x = absurd x
  part_right d (part.Out m) i None j x = absurd x
  part_right d (part.Out m) i (Some (value e)) j x = absurd x
  part_right d (part.Out m) i (Some (out w)) j x =
      out_found d ts i m x.0 (token_right ampersand i x.0 x.1) w x.2.0 (word_right x.0 w x.2.0 x.2.1) j
      (token_right (mark_kind m) x.2.0 j x.2.2)

  parts_right : (d : ℕ) (ps : List CallPart) (i : ℕ) (args : List ArgumentTree) (j : ℕ) → i ≤ l
      → Parts d ps ts l i args j → RightParts ts d ps i (found args j)
  parts_right d [] i args j within x =
      subst (λ n. RightParts ts d [] i (found args n)) (sym x.1) (subst (λ a. RightParts ts d [] i (found a i))
      (sym x.0) (parts_none d [] ts i refl within))
  parts_right d (p ∷ ps) i args j within x =
      let one = part_right d p i x.0 x.3 x.4 in
      let rest = parts_right d ps x.3 x.1 j one.within x.5 in
      subst (λ a. RightParts ts d (p ∷ ps) i (found a j)) (sym x.2) (parts_then d p ps ts i x.0 x.3 one
      (found x.1 j) rest)

  call_right : (d i : ℕ) (c : Called) (j : ℕ) → OneCall d ts l i c j → RightCall ts d i (found c j)
  call_right d i c j x =
      let lt = there service_of i c.service x.3.0 in
      let args = parts_right d (call_parts c.service) x.2 x.0 j (omega (arith, x.3.1)) x.4 in
      let at_next = subst (λ n. RightParts ts d (call_parts c.service) n (found x.0 j)) x.3.1 args in
      let whole = call_as d ts i c.service x.3.0 (found (called c.service x.0) j)
      (arguments_as d c.service (call_parts c.service) ts (i + 1) (found x.0 j) at_next) in
      subst (λ z. RightCall ts d i (found z j)) (sym x.1) whole

  condition_right : (d i : ℕ) (e : ExpressionTree) (j : ℕ) → IsCondition ts l d i e j
      → RightCondition ts d i (found e j)
  condition_right d i e j x =
      let lb = slice_get_within ts x.2.0 right x.2.2.0 in
      condition_found ts d i x.0 (token_right left i x.0 x.1) e x.2.0
      (expression_right x.2.1 (closes right (refl, refl) ts 0 x.2.0 tt j x.2.2 tt) (omega arith)) j
      (token_right right x.2.0 j x.2.2)

  -- an expression begins with no call
  not_service : (i : ℕ) (o : Option _) → family (slice_get ts i) ≤ 2 → o ≡ option_and_then service_of (slice_get ts i)
      → None ≡ o
  not_service i None le is = refl
  not_service i (Some s) le is = let f = service_family (slice_get ts i) s (sym is) in absurd (omega arith)

  no_call : {d m : ℕ} (i : ℕ) {e : ExpressionTree} {j : ℕ} → IsExpression ts l d m i e j → None
      ≡ option_and_then service_of (slice_get ts i)
  no_call i x = not_service i (option_and_then service_of (slice_get ts i)) (expression_family ts l x) refl

  -- `=` is no `[`
  not_open : (i j : ℕ) → IsToken ts equals i j → slice_get ts i ≡ Some open_bracket → ⊥
  not_open i j x is = let e : Some equals ≡ Some open_bracket = sym x.0 ∙ is in absurd (cc)

  if_first : {d : ℕ} {loop : Bool} {i : ℕ} {s : StatementTree} {j : ℕ} → IsIf ts l d loop i s j → slice_get ts i
      ≡ Some if_word
  if_first (if_chosen x test body o is) = x.0

  block_first : {d : ℕ} {loop : Bool} {i : ℕ} {b : Block} {j : ℕ} → IsBlock ts l d loop i b j → slice_get ts i
      ≡ Some open_brace
  block_first (braces fits x ss y is) = x.0

  mutual
    statement_right : {d : ℕ} {loop : Bool} {i : ℕ} {s : StatementTree} {j : ℕ} → IsStatement ts l d loop i s j
        → EndsElse ts j → j ≤ l → RightStatement ts d loop i (found s j)
    statement_right {d = d} {loop = loop} {i = i} {j = j} (an_assignment {b = b} {w = w} {e = e} a r x semi) ends
        within =
        let no = name_starts loop (slice_get ts i) w.name r.1.1.0 in
        let lb = slice_get_within ts b semicolon semi.0 in
        let not_call : None ≡ option_and_then service_of (slice_get ts a) = no_call a x in
        statement_assignment ts d loop i no.0 no.1 no.2 no.3 (found (assigned w (by_value e)) j)
        (assignment_then ts d i w r.0 (word_right i w r.0 r.1) (found (to_variable (by_value e)) j)
        (change_variable ts d r.0 (not_open r.0 a r.2) (found (by_value e) j)
        (source_found ts d r.0 a (token_right equals r.0 a r.2) (by_value e) b
        (source_value ts d a not_call (found e b) (expression_right x (closes semicolon
        (refl, refl) ts 0 b tt j semi tt) (omega arith))) j (token_right semicolon b j semi))))
    statement_right {d = d} {loop = loop} {i = i} {j = j} (an_element_assignment {b = b} {c = c} {k = k} {w = w}
        {index = index} {e = e} a name x eq y semi) ends within =
        let no = name_starts loop (slice_get ts i) w.name name.1.0 in
        let lk = slice_get_within ts k semicolon semi.0 in
        let lb = slice_get_within ts x.1.2.0 close_bracket x.1.2.2.0 in
        statement_assignment ts d loop i no.0 no.1 no.2 no.3 (found (changed w (to_element (index, e))) j)
        (assignment_then ts d i w a (word_right i w a name) (found (to_element (index, e)) j)
        (change_element ts d a x.1.1.0 (found (index, e) j)
        (element_found ts d a index b (bracketed_right d a x.1.0 x.1.2.0 index b x.0 x.1.1
        (expression_right x.1.2.1 (closes close_bracket (refl, refl) ts 0 x.1.2.0 tt b x.1.2.2 tt)
        (omega (arith, lb, x.1.2.2.1))) x.1.2.2) c (token_right equals b c eq) e k
        (expression_right y (closes semicolon (refl, refl) ts 0 k tt j semi tt) (omega arith)) j
        (token_right semicolon k j semi))))
    statement_right {d = d} {loop = loop} {i = i} {j = j} (a_call (Some w) a c b r call semi is) ends within =
        let no = name_starts loop (slice_get ts i) w.name r.1.1.0 in
        subst (λ s. RightStatement ts d loop i (found s j)) (sym is)
        (statement_assignment ts d loop i no.0 no.1 no.2 no.3 (found (assigned w (by_call c)) j)
        (assignment_then ts d i w r.0 (word_right i w r.0 r.1) (found (to_variable (by_call c)) j)
        (change_variable ts d r.0 (not_open r.0 a r.2) (found (by_call c) j)
        (source_found ts d r.0 a (token_right equals r.0 a r.2) (by_call c) b
        (source_call ts d a c.service call.3.0 (found c b) (call_right d a c b call)) j
        (token_right semicolon b j semi)))))
    statement_right {d = d} {loop = loop} {i = i} {j = j} (a_call None a c b r call semi is) ends within =
        let here = subst (λ n. OneCall d ts l n c b) r call in
        subst (λ s. RightStatement ts d loop i (found s j)) (sym is)
        (statement_call ts d loop i c.service here.3.0 (found (service_call (call_tree None c)) j)
        (plain_found ts d i c b (call_right d i c b here) j (token_right semicolon b j semi)))
    statement_right {d = d} {loop = loop} {i = i} {s = s} {j = j} (a_jump {a = a} x semi) ends within =
        statement_jump ts d loop i s x.0 (found s j) (jump_found ts loop i s (there (jump_of loop) i s x.0) x.0 j
        (token_right semicolon (i + 1) j (subst (λ n. IsToken ts semicolon n j) x.1 semi)))
    statement_right {d = d} {loop = loop} {i = i} {s = s} {j = j} (an_if x) ends within = statement_if ts d loop i
        (if_first x) (found s j) (if_right x ends within)
    statement_right {d = d} {loop = loop} {i = i} {j = j} (a_while {a = a} {b = b} {e = e} {body = body} x test block)
        ends within =
        while_body ts d loop i x.0 e b (condition_right d (i + 1) e b (subst
        (λ n. IsCondition ts l d n e b) x.1 test)) (found body j) (block_right block)

    if_right : {d : ℕ} {loop : Bool} {i : ℕ} {s : StatementTree} {j : ℕ} → IsIf ts l d loop i s j → EndsElse ts j
        → j ≤ l → RightIf ts d loop i (found s j)
    if_right {d = d} {loop = loop} {i = i} {j = j} (if_chosen {a = a} {b = b} {c = c} {e = e} {body = body}
        {other = other} x test block o is) ends within =
        subst (λ s. RightIf ts d loop i (found s j)) (sym is)
        (if_otherwise d loop ts i x.0 e b (condition_right d (i + 1) e b
        (subst (λ n. IsCondition ts l d n e b) x.1 test)) body c (block_right block)
        (found other j) (else_right o ends within))

    else_right : {d : ℕ} {loop : Bool} {i : ℕ} {o : Option Block} {j : ℕ} → IsElse ts l d loop i o j → EndsElse ts j
        → j ≤ l → RightElse ts d loop i (found o j)
    else_right {d = d} {loop = loop} {i = i} no_else ends within = without_else d loop ts i ends within
    else_right {d = d} {loop = loop} {i = i} {j = j} (an_else {a = a} {body = body} x r) ends within =
        with_else d loop ts i x.0 (found body j) (subst (λ n. RightOther ts d loop n (found body j)) x.1
        (other_right r ends within))

    other_right : {d : ℕ} {loop : Bool} {i : ℕ} {b : Block} {j : ℕ} → IsOther ts l d loop i b j → EndsElse ts j
        → j ≤ l → RightOther ts d loop i (found b j)
    other_right {d = d} {loop = loop} {i = i} {b = b} {j = j} (a_block x) ends within =
        block_other d loop ts i (λ e. let f : Some open_brace ≡ Some if_word = sym (block_first x) ∙ e in absurd (cc))
        (found b j) (block_right x)
    other_right {d = d} {loop = loop} {i = i} {j = j} (another_if {s = s} fits x is) ends within =
        let lt = slice_get_within ts i if_word (if_first x) in
        subst (λ b. RightOther ts d loop i (found b j)) (sym is)
        (if_other d loop ts i (if_first x) (fits lt) (found s j) (if_right x ends within))

    block_right : {d : ℕ} {loop : Bool} {i : ℕ} {b : Block} {j : ℕ} → IsBlock ts l d loop i b j
        → RightBlock ts d loop i (found b j)
    block_right {d = d} {loop = loop} {i = i} {j = j} (braces {a = a} {b = b} {ss = ss} fits x inner y is) =
        let lt = slice_get_within ts i open_brace x.0 in
        let lb = slice_get_within ts b close_brace y.0 in
        subst (λ t. RightBlock ts d loop i (found t j)) (sym is)
        (block_found d loop ts i x.0 (fits lt) ss b
        (subst (λ n. RightStatements ts (d + 1) loop n (found ss b)) x.1 (statements_right inner y.0 (omega arith))) j
        (token_right close_brace b j y))

    statements_right : {d : ℕ} {loop : Bool} {i : ℕ} {ss : List StatementTree} {j : ℕ}
        → AreStatements ts l d loop i ss j → EndsStatements ts j → j ≤ l
        → RightStatements ts d loop i (found ss j)
    statements_right {d = d} {loop = loop} {i = i} no_statement ends within = statements_none d loop ts i ends within
    statements_right {d = d} {loop = loop} {i = i} {j = j} (a_statement {a = a} {s = s} {ss = ss} x more) ends within =
        let up = statements_up ts l more in
        statements_more d loop ts i (λ is. none_begins ts l d loop (brace_begins_none loop (slice_get ts i) is) x) s a
        (statement_right x (statements_follow d loop ts l a ss j (frames.to_star ts l d loop more) ends)
        (omega arith)) (found ss j) (statements_right more ends within)

  count_right : (i : ℕ) (n : Length) (j : ℕ) → OneCount ts l i n j → RightCount ts i (found n j)
  count_right i n j x =
      let same : count_here i n.places ≡ n = ap (λ k. record { places = n.places; at = k }) (sym x.0) in
      let base = count_found ts i n.places (there number_of i n.places x.1.0) x.1.0 in
      subst (λ k. RightCount ts i (found n k)) (sym x.1.1) (subst (λ v. RightCount ts i (found v (i + 1))) same base)

  length_right : (i : ℕ) (o : Option Length) (j : ℕ) → OneLength ts l i o j → EndsOperand ts j → j ≤ l
      → RightLength ts i (found o j)
  length_right i None j x ends within =
      subst (λ n. RightLength ts i (found None n)) (sym x) (length_none ts i
      (λ is. ends (subst (λ n. slice_get ts n ≡ Some open_bracket) (sym x) is)) (omega (arith, x)))
  length_right i (Some n) j x ends within =
      length_found ts i x.1.0 n x.2.0 (subst (λ k. RightCount ts k (found n x.2.0)) x.1.1
      (count_right x.0 n x.2.0 x.2.1)) j (token_right close_bracket x.2.0 j x.2.2)

  variable_right : (i : ℕ) (v : Declaration) (j : ℕ) → OneVariable ts l i v j → RightVariable ts i (found v j)
  variable_right i v j x =
      let c = x.2.2.0 in
      let lc = slice_get_within ts c semicolon x.2.2.2.0 in
      variable_found ts i x.0 (token_right var_word i x.0 x.1) v.name x.2.0
      (word_right x.0 v.name x.2.0 x.2.1) v.length c
      (length_right x.2.0 v.length c x.2.2.1 (length_ends ts 0 c tt j x.2.2.2 tt) (omega arith)) j
      (token_right semicolon c j x.2.2.2)

  variables_right : (i : ℕ) (ws : List Declaration) (j : ℕ) → Star OneVariable ts l i ws j → EndsVariables ts j
      → j ≤ l → RightVariables ts i (found ws j)
  variables_right i [] j x ends within =
      subst (λ n. RightVariables ts i (found [] n)) (sym x) (variables_none ts i
      (λ is. ends (subst (λ n. slice_get ts n ≡ Some var_word) (sym x) is)) (omega (arith, x)))
  variables_right i (w ∷ ws) j x ends within =
      variables_more ts i x.1.1.0 w x.0 (variable_right i w x.0 x.1) (found ws j)
      (variables_right x.0 ws j x.2 ends within)

  body_right : (i : ℕ) (b : BodyTree) (j : ℕ) → OneBody ts l i b j → RightBody ts i (found b j)
  body_right i b j x =
      let lb = slice_get_within ts x.11 close_brace x.13.0 in
      let up = statements_up ts l x.12 in
      let after = paths.variables_follow ts l x.7 x.9 j (x.11, frames.to_star ts l 0 false x.12, x.13) tt in
      let vars = variables_right x.5 b.variables x.7 x.8 after (omega arith) in
      let word = subst (λ n. RightWord ts n (found b.name x.3)) x.2.1 (word_right x.1 b.name x.3 x.4) in
      let whole = body_found ts i b.kind x.2.0 b.name x.3 word x.5 (token_right open_brace x.3 x.5 x.6) b.variables
      x.7 vars x.9 x.11
      (statements_right x.12 x.13.0 (omega arith)) j (token_right close_brace x.11 j x.13) in
      subst (λ n. RightBody ts i (found (record {
        kind = b.kind;
        at = n;
        name = b.name;
        variables = b.variables;
        statements = b.statements;
      }) j)) (sym x.0)
      (subst (λ s. RightBody ts i (found (record {
        kind = b.kind;
        at = i;
        name = b.name;
        variables = b.variables;
        statements = s;
      }) j)) (sym x.10) whole)

  bodies_right : (i : ℕ) (bs : List BodyTree) (j : ℕ) → Star OneBody ts l i bs j → EndsBodies ts j → j ≤ l
      → RightBodies ts i (found bs j)
  bodies_right i [] j x ends within =
      subst (λ n. RightBodies ts i (found [] n)) (sym x) (bodies_none ts i
      (sym ends ∙ ap (λ n. option_and_then body_kind_of (slice_get ts n)) x) (omega (arith, x)))
  bodies_right i (b ∷ bs) j x ends within =
      bodies_more ts i b.kind x.1.2.0 b x.0 (body_right i b x.0 x.1) (found bs j)
      (bodies_right x.0 bs j x.2 ends within)

pub one_program : (ts : List TokenKind) (a b : List BodyTree) → IsWhole Bodies ts a → IsWhole Bodies ts b → b ≡ a
one_program ts a b x y =
    ((bodies_right ts 0 a (length ts) x (ends_there ts) (omega arith)).decides ts (length ts) b (length ts)
    (λ k lt. refl) (omega arith) y (ends_there ts)).0

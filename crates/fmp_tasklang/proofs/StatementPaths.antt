-- Statements, blocks and what follows `else`: what is right about reading one.
use Rattle.std.proofs.Common.{◌≡◌, ℕ, ◌+◌, ◌<◌, ◌≤◌, Bool, true, false, List, [], ◌∷◌, length, slice_get, Option, Some}
use Rattle.std.proofs.Common.{None, option_and_then, refl, sym, ap, subst, ◌∙◌, arith}
use Rattle.fmp_base.specs.declared.services.Service.{Service}
use Rattle.fmp_lex.specs.declared.reading.GrammarFault.{GrammarFault}
use Rattle.fmp_lex.specs.declared.reading.GrammarFault.TheVariants.{Syntax, Depth}
use Rattle.fmp_lex.specs.declared.token.TokenKind.{TokenKind}
use Rattle.fmp_lex.specs.Reading.{Rel, At, Seq, Star, OneToken, ParseResult, found, stopped, map_result, Right}
use Rattle.fmp_lex.specs.Reading.{Anywhere, RightToken}
use Rattle.fmp_lex.proofs.Sequences.{Framed, Fills, Follows, token_found, seq_fills, seq_then, seq_stop, right_as}
use Rattle.fmp_lex.proofs.Repetitions.{Behind, behind_then, closed_found, closed_missing, closed_stop, star_framed}
use Rattle.fmp_lex.proofs.Repetitions.{star_none, star_more, star_stop}
use Rattle.fmp_tasklang.specs.Trees.{ExpressionTree, StatementTree, while, Block}
use Rattle.fmp_tasklang.specs.Blocks.{block_of, choice}
use Rattle.fmp_tasklang.specs.Expressions.{name_of}
use Rattle.fmp_tasklang.specs.Calls.{service_of, OneCall}
use Rattle.fmp_tasklang.specs.Statements.{jump_of, IsStatement, an_assignment, an_element_assignment, a_call, a_jump}
use Rattle.fmp_tasklang.specs.Statements.{an_if, a_while, IsIf, if_chosen, IsElse, no_else, an_else, IsOther, a_block}
use Rattle.fmp_tasklang.specs.Statements.{another_if, braces}
use Rattle.fmp_tasklang.specs.Reading.{by_value, by_call, to_variable, to_element, EndsElse, EndsStatements, Assignment}
use Rattle.fmp_tasklang.specs.Reading.{PlainCall, Jump, Condition, OneStatement, OneIf, Else, Other, OneBlock}
use Rattle.fmp_tasklang.specs.Reading.{RightCondition, RightAssignment, RightPlainCall, RightJump, RightStatement}
use Rattle.fmp_tasklang.specs.Reading.{RightIf, RightElse, RightOther, RightBlock, RightStatements}
use Rattle.fmp_tasklang.proofs.Families.{family, name_family, service_family, jump_family}
use Rattle.fmp_tasklang.proofs.Layers.{right_same, Deeper, deeper_then, deeper_missing, deeper_deep}
use Rattle.fmp_tasklang.proofs.StatementFrames.{open_brace, close_brace, if_word, else_word, while_word}
use Rattle.fmp_tasklang.proofs.StatementFrames.{condition_framed, condition_fills, statement_framed, block_framed}
use Rattle.fmp_tasklang.proofs.StatementFrames.{block_fills, else_fills, to_star, Inside, Braces, braces_to}
use Rattle.fmp_tasklang.proofs.StatementFrames.{inside_fills, none_begins, else_begins_none, brace_begins_none}

no_jump_if : (loop : Bool) → jump_of loop if_word ≡ None
no_jump_if true = refl
no_jump_if false = refl

no_jump_while : (loop : Bool) → jump_of loop while_word ≡ None
no_jump_while true = refl
no_jump_while false = refl

-- what the first token of a statement says of it
module _ (us : List TokenKind) (limit d : ℕ) (loop : Bool) (i : ℕ) where
  call_back : {s : StatementTree} {j : ℕ} → family (slice_get us i) ≡ 3 → IsStatement us limit d loop i s j
      → PlainCall d us limit i s j
  call_back at (an_assignment {w = w} a r e semi) = let f = name_family (slice_get us i) w.name r.1.1.0 in absurd
      (omega arith)
  call_back at (an_element_assignment {w = w} a name x eq y semi) = let f = name_family
      (slice_get us i) w.name name.1.0 in absurd (omega arith)
  call_back at (a_call (Some w) a c b res call semi is) = let f = name_family
      (slice_get us i) w.name res.1.1.0 in absurd (omega arith)
  call_back at (a_call None a c b res call semi is) = (c, is, b, subst (λ n. OneCall d us limit n c b) res call, semi)
  call_back at (a_jump {s = s} x semi) = let f = jump_family loop (slice_get us i) s x.0 in absurd (omega arith)
  call_back at (an_if (if_chosen x test body o is)) = let f : family (slice_get us i)
      ≡ 4 = ap family x.0 in absurd (omega arith)
  call_back at (a_while x test body) = let f : family (slice_get us i) ≡ 4 = ap family x.0 in absurd (omega arith)

  jump_back : (a : StatementTree) {s : StatementTree} {j : ℕ} → option_and_then (jump_of loop) (slice_get us i)
      ≡ Some a → IsStatement us limit d loop i s j → Jump loop us limit i s j
  jump_back a at (an_assignment {w = w} k r e semi) =
      let f = name_family (slice_get us i) w.name r.1.1.0 in let g = jump_family loop (slice_get us i) a at in absurd
      (omega arith)
  jump_back a at (an_element_assignment {w = w} k name x eq y semi) =
      let f = name_family (slice_get us i) w.name name.1.0 in let g = jump_family loop (slice_get us i) a at in absurd
      (omega arith)
  jump_back a at (a_call (Some w) k c b res call semi is) =
      let f = name_family (slice_get us i) w.name res.1.1.0 in let g = jump_family loop
      (slice_get us i) a at in absurd (omega arith)
  jump_back a at (a_call None k c b res call semi is) =
      let f = service_family (slice_get us i) c.service (ap (λ n. option_and_then service_of (slice_get us n))
      (sym res) ∙ call.3.0) in
      let g = jump_family loop (slice_get us i) a at in absurd (omega arith)
  jump_back a at (a_jump {a = k} x semi) = (k, x, semi)
  jump_back a at (an_if (if_chosen x test body o is)) =
      let e : None ≡ Some a = sym (ap (option_and_then (jump_of loop)) x.0 ∙ no_jump_if loop) ∙ at in absurd (cc)
  jump_back a at (a_while x test body) =
      let e : None ≡ Some a = sym (ap (option_and_then (jump_of loop)) x.0 ∙ no_jump_while loop) ∙ at in absurd (cc)

  if_back : {s : StatementTree} {j : ℕ} → slice_get us i ≡ Some if_word → IsStatement us limit d loop i s j
      → IsIf us limit d loop i s j
  if_back at (an_assignment {w = w} a r e semi) = let f : None ≡ Some w.name = ap (option_and_then name_of) (sym at)
      ∙ r.1.1.0 in absurd (cc)
  if_back at (an_element_assignment {w = w} a name x eq y semi) = let f : None
      ≡ Some w.name = ap (option_and_then name_of) (sym at) ∙ name.1.0 in absurd (cc)
  if_back at (a_call (Some w) a c b res call semi is) = let f : None
      ≡ Some w.name = ap (option_and_then name_of) (sym at) ∙ res.1.1.0 in absurd (cc)
  if_back at (a_call None a c b res call semi is) =
      let f : None ≡ Some c.service = ap (option_and_then service_of) (sym at)
      ∙ (ap (λ n. option_and_then service_of (slice_get us n)) (sym res) ∙ call.3.0) in absurd (cc)
  if_back at (a_jump {s = s} x semi) = let f : None ≡ Some s = sym (ap (option_and_then (jump_of loop)) at
      ∙ no_jump_if loop) ∙ x.0 in absurd (cc)
  if_back at (an_if s) = s
  if_back at (a_while x test body) = let f : Some if_word ≡ Some while_word = sym at ∙ x.0 in absurd (cc)

  abbrev Whiles : Rel (ExpressionTree × Block)
  Whiles = Behind while_word (Seq (Condition d) (OneBlock d true))

  while_back : {s : StatementTree} {j : ℕ} → slice_get us i ≡ Some while_word → IsStatement us limit d loop i s j →
      (p : ExpressionTree × Block) × (s ≡ while p.0 p.1) × Whiles us limit i p j
  while_back at (an_assignment {w = w} a r e semi) = let f : None
      ≡ Some w.name = ap (option_and_then name_of) (sym at) ∙ r.1.1.0 in absurd (cc)
  while_back at (an_element_assignment {w = w} a name x eq y semi) = let f : None
      ≡ Some w.name = ap (option_and_then name_of) (sym at) ∙ name.1.0 in absurd (cc)
  while_back at (a_call (Some w) a c b res call semi is) = let f : None
      ≡ Some w.name = ap (option_and_then name_of) (sym at) ∙ res.1.1.0 in absurd (cc)
  while_back at (a_call None a c b res call semi is) =
      let f : None ≡ Some c.service = ap (option_and_then service_of) (sym at)
      ∙ (ap (λ n. option_and_then service_of (slice_get us n)) (sym res) ∙ call.3.0) in absurd (cc)
  while_back at (a_jump {s = s} x semi) = let f : None ≡ Some s = sym (ap (option_and_then (jump_of loop)) at
      ∙ no_jump_while loop) ∙ x.0 in absurd (cc)
  while_back at (an_if (if_chosen x test body o is)) = let f : Some while_word ≡ Some if_word = sym at
      ∙ x.0 in absurd (cc)
  while_back at (a_while {a = a} {b = b} {e = e} {body = body} x test block) =
      ((e, body), refl, (a, x, (b, test, block)))

  assignment_back : {s : StatementTree} {j : ℕ} → option_and_then service_of (slice_get us i) ≡ None
      → option_and_then (jump_of loop) (slice_get us i) ≡ None →
      (slice_get us i ≡ Some if_word → ⊥) → (slice_get us i ≡ Some while_word → ⊥) → IsStatement us limit d loop i s j
      → Assignment d us limit i s j
  assignment_back no_call no_jump no_if no_while (an_assignment {b = b} {w = w} {e = e} a r x semi) =
      (w, to_variable (by_value e), refl, r.0, r.1, (a, r.2, (b, x, semi)))
  assignment_back no_call no_jump no_if no_while (an_element_assignment {b = b} {c = c} {k = k} {w = w}
      {index = index} {e = e} a name x eq y semi) =
      (w, to_element (index, e), refl, a, name, (b, x, (c, eq, (k, y, semi))))
  assignment_back no_call no_jump no_if no_while (a_call (Some w) a c b res call semi is) =
      (w, to_variable (by_call c), is, res.0, res.1, (a, res.2, (b, call, semi)))
  assignment_back no_call no_jump no_if no_while (a_call None a c b res call semi is) =
      let f : None ≡ Some c.service = sym no_call ∙ (ap (λ n. option_and_then service_of (slice_get us n)) (sym res)
      ∙ call.3.0) in absurd (cc)
  assignment_back no_call no_jump no_if no_while (a_jump {s = s} x semi) = let f : None ≡ Some s = sym no_jump
      ∙ x.0 in absurd (cc)
  assignment_back no_call no_jump no_if no_while (an_if (if_chosen x test body o is)) = absurd (no_if x.0)
  assignment_back no_call no_jump no_if no_while (a_while x test body) = absurd (no_while x.0)

  assignment_to : {s : StatementTree} {j : ℕ} → Assignment d us limit i s j → IsStatement us limit d loop i s j
  assignment_to {j = j} (w, to_variable (by_value e), is, k, word, (a, equals, (b, x, semi))) =
      subst (λ z. IsStatement us limit d loop i z j) (sym is) (an_assignment a (k, word, equals) x semi)
  assignment_to (w, to_variable (by_call c), is, k, word, (a, equals, (b, x, semi))) = a_call (Some w) a c b
      (k, word, equals) x semi is
  assignment_to {j = j} (w, to_element p, is, k, word, (b, x, (c, eq, (n, y, semi)))) =
      subst (λ z. IsStatement us limit d loop i z j) (sym is) (an_element_assignment k word x eq y semi)

module _ (ts : List TokenKind) (d : ℕ) (loop : Bool) (i : ℕ) where
  pub statement_call : (s : Service) → option_and_then service_of (slice_get ts i) ≡ Some s
      → (o : ParseResult StatementTree) → RightPlainCall ts d i o → RightStatement ts d loop i o
  statement_call s is o x = right_same (PlainCall d) (OneStatement d loop)
      (λ us limit e j r. a_call None i r.0 r.2 refl r.3 r.4 r.1)
      (λ us limit e j at r ends. (
        call_back us limit d loop i (ap family at ∙ service_family (slice_get ts i) s is) r,
        tt,
      )) o x

  pub statement_jump : (a : StatementTree) → option_and_then (jump_of loop) (slice_get ts i) ≡ Some a
      → (o : ParseResult StatementTree) → RightJump ts loop i o → RightStatement ts d loop i o
  statement_jump a is o x = right_same (Jump loop) (OneStatement d loop) (λ us limit e j r. a_jump r.1 r.2)
      (λ us limit e j at r ends. (jump_back us limit d loop i a (ap (option_and_then (jump_of loop)) at ∙ is) r, tt))
      o x

  pub statement_if : slice_get ts i ≡ Some if_word → (o : ParseResult StatementTree) → RightIf ts d loop i o
      → RightStatement ts d loop i o
  statement_if is o x = right_same (OneIf d loop) (OneStatement d loop) (λ us limit e j r. an_if r)
      (λ us limit e j at r ends. (if_back us limit d loop i (at ∙ is) r, ends)) o x

  pub statement_assignment : option_and_then service_of (slice_get ts i) ≡ None
      → option_and_then (jump_of loop) (slice_get ts i) ≡ None →
      (slice_get ts i ≡ Some if_word → ⊥) → (slice_get ts i ≡ Some while_word → ⊥) → (o : ParseResult StatementTree)
      → RightAssignment ts d i o → RightStatement ts d loop i o
  statement_assignment no_call no_jump no_if no_while o x = right_same (Assignment d) (OneStatement d loop)
      (λ us limit e j r. assignment_to us limit d loop i r)
      (λ us limit e j at r ends. (
        assignment_back us limit d loop i (ap (option_and_then service_of) at ∙ no_call)
            (ap (option_and_then (jump_of loop)) at ∙ no_jump)
            (λ is. no_if (sym at ∙ is)) (λ is. no_while (sym at ∙ is)) r,
        tt,
      )) o x

  -- while ( expr ) block
  module _ (is : slice_get ts i ≡ Some while_word) where
    abbrev Looped : Rel (ExpressionTree × Block)
    Looped = Seq (Condition d) (OneBlock d true)

    while_as : (o : ParseResult (ExpressionTree × Block)) → Right (At Looped (i + 1)) Anywhere ts (i + 1) o →
        RightStatement ts d loop i (map_result (λ (p : ExpressionTree × Block). while p.0 p.1) o)
    while_as o x = right_as (Behind while_word Looped) (OneStatement d loop) (λ p. while p.0 p.1)
        (λ us limit p j r. a_while r.1 r.2.1 r.2.2)
        (λ us limit e j at r ends. let b = while_back us limit d loop i (at ∙ is) r in (b.0, b.1, b.2, tt)) o
        (behind_then while_word Looped (token_found while_word ts i is) o x)

    pub while_test : (j : ℕ) (why : GrammarFault) → RightCondition ts d (i + 1) (stopped j why)
        → RightStatement ts d loop i (stopped j why)
    while_test j why x = while_as (stopped j why) (seq_stop (Condition d) (OneBlock d true) (condition_framed d)
        (block_fills d true) (λ us limit n b m y ends. tt) x)

    pub while_body : (e : ExpressionTree) (k : ℕ) → RightCondition ts d (i + 1) (found e k) → (o : ParseResult Block)
        → RightBlock ts d true k o →
        RightStatement ts d loop i (map_result (while e) o)
    while_body e k x (found b j) y = while_as (found (e, b) j) (seq_then (Condition d) (OneBlock d true)
        (condition_framed d) (λ us limit n b m y ends. tt) x (found b j) y)
    while_body e k x (stopped j why) y = while_as (stopped j why) (seq_then (Condition d) (OneBlock d true)
        (condition_framed d) (λ us limit n b m y ends. tt) x (stopped j why) y)

-- if ( expr ) block [else]
module _ (d : ℕ) (loop : Bool) where
  abbrev Branches : Rel (Block × Option Block)
  Branches = Seq (OneBlock d loop) (Else d loop)

  abbrev Chosen : Rel (ExpressionTree × (Block × Option Block))
  Chosen = Seq (Condition d) Branches

  branches_fills : Fills Branches
  branches_fills = seq_fills (OneBlock d loop) (Else d loop) (block_framed d loop) (block_fills d loop)
      (else_fills d loop)

  chosen_fills : Fills Chosen
  chosen_fills = seq_fills (Condition d) Branches (condition_framed d) (condition_fills d) branches_fills

  abbrev choice_of : ExpressionTree × (Block × Option Block) → StatementTree
  choice_of p = choice p.0 p.1.0 p.1.1

  chosen_from : (us : List TokenKind) (limit i : ℕ) (s : StatementTree) (j : ℕ) → OneIf d loop us limit i s j →
      (p : ExpressionTree × (Block × Option Block)) × (s ≡ choice_of p) × Behind if_word Chosen us limit i p j
  chosen_from us limit i s j (if_chosen {a = a} {b = b} {c = c} {e = e} {body = body} {other = other} x test block o
      is) =
      ((e, (body, other)), is, (a, x, (b, test, (c, block, o))))

  module _ (ts : List TokenKind) (i : ℕ) (is : slice_get ts i ≡ Some if_word) where
    if_as : (o : ParseResult (ExpressionTree × (Block × Option Block)))
        → Right (At Chosen (i + 1)) EndsElse ts (i + 1) o → RightIf ts d loop i (map_result choice_of o)
    if_as o x = right_as (Behind if_word Chosen) (OneIf d loop) choice_of
        (λ us limit p j r. if_chosen r.1 r.2.1 r.2.2.1 r.2.2.2 refl)
        (λ us limit e j at r ends. let b = chosen_from us limit i e j r in (b.0, b.1, b.2, ends)) o
        (behind_then if_word Chosen (token_found if_word ts i is) o x)

    pub if_test : (j : ℕ) (why : GrammarFault) → RightCondition ts d (i + 1) (stopped j why)
        → RightIf ts d loop i (stopped j why)
    if_test j why x = if_as (stopped j why) (seq_stop (Condition d) Branches (condition_framed d) branches_fills
        (λ us limit n b m y ends. tt) x)

    module _ (e : ExpressionTree) (k : ℕ) (x : RightCondition ts d (i + 1) (found e k)) where
      pub if_then_stop : (j : ℕ) (why : GrammarFault) → RightBlock ts d loop k (stopped j why)
          → RightIf ts d loop i (stopped j why)
      if_then_stop j why y = if_as (stopped j why) (seq_then (Condition d) Branches (condition_framed d)
          (λ us limit n b m y ends. tt) x (stopped j why)
          (seq_stop (OneBlock d loop) (Else d loop) (block_framed d loop) (else_fills d loop)
          (λ us limit n b m y ends. tt) y))

      pub if_otherwise : (body : Block) (l : ℕ) → RightBlock ts d loop k (found body l)
          → (o : ParseResult (Option Block)) → RightElse ts d loop l o →
          RightIf ts d loop i (map_result (choice e body) o)
      if_otherwise body l y (found other j) z =
          if_as (found (e, (body, other)) j) (seq_then (Condition d) Branches (condition_framed d)
          (λ us limit n b m y ends. tt) x (found (body, other) j)
          (seq_then (OneBlock d loop) (Else d loop) (block_framed d loop) (λ us limit n b m y ends. tt) y
          (found other j) z))
      if_otherwise body l y (stopped j why) z = if_as (stopped j why) (seq_then (Condition d) Branches
          (condition_framed d) (λ us limit n b m y ends. tt) x (stopped j why)
          (seq_then (OneBlock d loop) (Else d loop) (block_framed d loop) (λ us limit n b m y ends. tt) y
          (stopped j why) z))

-- [else]
module _ (d : ℕ) (loop : Bool) where
  else_none : (us : List TokenKind) (limit i : ℕ) (o : Option Block) (j : ℕ) → (slice_get us i ≡ Some else_word → ⊥)
      → IsElse us limit d loop i o j → (o ≡ None) × (j ≡ i)
  else_none us limit i o j is_not no_else = (refl, refl)
  else_none us limit i o j is_not (an_else x body) = absurd (is_not x.0)

  else_some : (us : List TokenKind) (limit i : ℕ) (o : Option Block) (j : ℕ) → slice_get us i ≡ Some else_word
      → EndsElse us j → IsElse us limit d loop i o j →
      (b : Block) × (o ≡ Some b) × Behind else_word (Other d loop) us limit i b j
  else_some us limit i o j is ends no_else = absurd (ends is)
  else_some us limit i o j is ends (an_else {a = a} {body = body} x r) = (body, refl, (a, x, r))

  module _ (ts : List TokenKind) (i : ℕ) where
    pub without_else : (slice_get ts i ≡ Some else_word → ⊥) → i ≤ length ts → RightElse ts d loop i (found None i)
    without_else is_not within = record {
      from = omega arith;
      within = within;
      reads = λ limit. no_else;
      decides = λ us limit e j same low r ends. else_none us limit i e j (λ is. is_not (same i (omega arith) ∙ is)) r;
    }

    pub with_else : slice_get ts i ≡ Some else_word → (o : ParseResult Block) → RightOther ts d loop (i + 1) o
        → RightElse ts d loop i (map_result Some o)
    with_else is o x = right_as (Behind else_word (Other d loop)) (Else d loop) Some (λ us limit b j r. an_else r.1 r.2)
        (λ us limit e j at r ends. let b = else_some us limit i e j (at ∙ is) ends r in (b.0, b.1, b.2, ends)) o
        (behind_then else_word (Other d loop) (token_found else_word ts i is) o x)

    -- block | if
    other_block : (us : List TokenKind) (limit : ℕ) (b : Block) (j : ℕ) → (slice_get us i ≡ Some if_word → ⊥)
        → IsOther us limit d loop i b j → OneBlock d loop us limit i b j
    other_block us limit b j is_not (a_block x) = x
    other_block us limit b j is_not (another_if fits (if_chosen x test body o is) eq) = absurd (is_not x.0)

    pub block_other : (slice_get ts i ≡ Some if_word → ⊥) → (o : ParseResult Block) → RightBlock ts d loop i o
        → RightOther ts d loop i o
    block_other is_not o x = right_same (OneBlock d loop) (Other d loop) (λ us limit b j r. a_block r)
        (λ us limit e j at r ends. (other_block us limit e j (λ is. is_not (sym at ∙ is)) r, tt)) o x

    abbrev alone : StatementTree → Block
    alone s = block_of (s ∷ [])

    other_if : (us : List TokenKind) (limit : ℕ) (b : Block) (j : ℕ) → slice_get us i ≡ Some if_word
        → IsOther us limit d loop i b j →
        (s : StatementTree) × (b ≡ alone s) × Deeper d (OneIf (d + 1) loop) us limit i s j
    other_if us limit b j at (a_block (braces fits x ss y is)) = let e : Some if_word ≡ Some open_brace = sym at
        ∙ x.0 in absurd (cc)
    other_if us limit b j at (another_if {s = s} fits x is) = (s, is, (fits, x))

    module _ (is : slice_get ts i ≡ Some if_word) where
      pub if_other : d < 64 → (o : ParseResult StatementTree) → RightIf ts (d + 1) loop i o
          → RightOther ts d loop i (map_result alone o)
      if_other fits o x = right_as (Deeper d (OneIf (d + 1) loop)) (Other d loop) alone
          (λ us limit s j r. another_if r.0 r.1 refl)
          (λ us limit e j at r ends. let b = other_if us limit e j (at ∙ is) r in (b.0, b.1, b.2, ends)) o
          (deeper_then d (OneIf (d + 1) loop) fits o x)

      other_seq : (us : List TokenKind) (limit : ℕ) (b : Block) (j : ℕ) → slice_get us i ≡ Some if_word
          → IsOther us limit d loop i b j →
          (p : ExpressionTree × (Block × Option Block)) × (b ≡ alone (choice_of (d + 1) loop p))
          × Deeper d (Behind if_word (Chosen (d + 1) loop)) us limit i p j
      other_seq us limit b j at r =
          let x = other_if us limit b j at r in
          let y = chosen_from (d + 1) loop us limit i x.0 j x.2.1 in
          (y.0, x.1 ∙ ap alone y.1, (x.2.0, y.2))

      pub deep_other : 64 ≤ d → RightOther ts d loop i (stopped i Depth)
      deep_other deep = right_as (Deeper d (Behind if_word (Chosen (d + 1) loop))) (Other d loop)
          (λ p. alone (choice_of (d + 1) loop p))
          (λ us limit p j r. another_if r.0 (if_chosen r.1.1 r.1.2.1 r.1.2.2.1 r.1.2.2.2 refl) refl)
          (λ us limit e j at r ends. let b = other_seq us limit e j (at ∙ is) r in (b.0, b.1, b.2, ends))
          (stopped i Depth)
          (deeper_deep d if_word (Chosen (d + 1) loop) (chosen_fills (d + 1) loop) is deep)

-- { {stmt} }
module _ (d : ℕ) (loop : Bool) where
  pub statements_follow : Follows EndsElse (Star (OneStatement d loop)) EndsStatements
  statements_follow us limit k [] j x ends = λ is. let e : Some close_brace ≡ Some else_word = sym ends
      ∙ (subst (λ n. slice_get us n ≡ Some else_word) (sym x) is) in absurd (cc)
  statements_follow us limit k (s ∷ ss) j x ends = λ is. none_begins us limit d loop
      (else_begins_none loop (slice_get us k) is) x.1

  module _ (ts : List TokenKind) (i : ℕ) where
    pub statements_none : slice_get ts i ≡ Some close_brace → i ≤ length ts → RightStatements ts d loop i (found [] i)
    statements_none is within = star_none (OneStatement d loop) ts i
        (λ us limit s k at x. none_begins us limit d loop (brace_begins_none loop (slice_get us i) (at ∙ is)) x) within

    module _ (is_not : slice_get ts i ≡ Some close_brace → ⊥) where
      pub statements_more : (s : StatementTree) (k : ℕ) → RightStatement ts d loop i (found s k)
          → (o : ParseResult (List StatementTree)) → RightStatements ts d loop k o →
          RightStatements ts d loop i (map_result (λ (more : List StatementTree). s ∷ more) o)
      statements_more s k x o rest = star_more (OneStatement d loop) EndsElse EndsStatements ts i
          (statement_framed d loop) statements_follow
          (λ us at ends. is_not (sym at ∙ ends)) s k x o rest

      pub statements_stop : (j : ℕ) (why : GrammarFault) → RightStatement ts d loop i (stopped j why)
          → RightStatements ts d loop i (stopped j why)
      statements_stop j why x = star_stop (OneStatement d loop) EndsElse EndsStatements ts i
          (statement_framed d loop) statements_follow
          (λ us at ends. is_not (sym at ∙ ends)) j why x

module _ (d : ℕ) (loop : Bool) where
  inside_follow : Follows EndsStatements (OneToken close_brace) Anywhere
  inside_follow us limit k b j y ends = y.0

  inside_framed : Framed (Star (OneStatement (d + 1) loop))
  inside_framed = star_framed (OneStatement (d + 1) loop) (statement_framed (d + 1) loop)

  braces_from : (us : List TokenKind) (limit i : ℕ) (b : Block) (j : ℕ) → OneBlock d loop us limit i b j →
      (ss : List StatementTree) × (b ≡ block_of ss) × Braces d loop us limit i ss j × Unit {0}
  braces_from us limit i b j (braces {a = a} {b = k} {ss = ss} fits x inner y is) =
      (ss, is, (fits, (a, x, (k, to_star us limit (d + 1) loop inner, y))), tt)

  module _ (ts : List TokenKind) (i : ℕ) where
    block_as : (o : ParseResult (List StatementTree)) → Right (At (Braces d loop) i) Anywhere ts i o
        → RightBlock ts d loop i (map_result block_of o)
    block_as o x = right_as (Braces d loop) (OneBlock d loop) block_of (λ us limit ss j r. braces_to d loop us limit i
        ss j r)
        (λ us limit b j at r ends. braces_from us limit i b j r) o x

    pub block_missing : (slice_get ts i ≡ Some open_brace → ⊥) → i ≤ length ts
        → RightBlock ts d loop i (stopped i Syntax)
    block_missing is_not within = block_as (stopped i Syntax) (deeper_missing d open_brace (Inside d loop)
        (inside_fills d loop) is_not within)

    module _ (is : slice_get ts i ≡ Some open_brace) where
      pub block_deep : 64 ≤ d → RightBlock ts d loop i (stopped i Depth)
      block_deep deep = block_as (stopped i Depth) (deeper_deep d open_brace (Inside d loop)
          (inside_fills d loop) is deep)

      block_inside : d < 64 → (o : ParseResult (List StatementTree))
          → Right (At (Inside d loop) (i + 1)) Anywhere ts (i + 1) o → RightBlock ts d loop i (map_result block_of o)
      block_inside fits o x = block_as o (deeper_then d (Behind open_brace (Inside d loop)) fits o
          (behind_then open_brace (Inside d loop) (token_found open_brace ts i is) o x))

      pub block_stop : d < 64 → (j : ℕ) (why : GrammarFault) → RightStatements ts (d + 1) loop (i + 1) (stopped j why)
          → RightBlock ts d loop i (stopped j why)
      block_stop fits j why x = block_inside fits (stopped j why) (closed_stop
          (Star (OneStatement (d + 1) loop)) close_brace inside_framed inside_follow x)

      module _ (fits : d < 64) (ss : List StatementTree) (k : ℕ) (x : RightStatements ts (d + 1) loop (i + 1)
          (found ss k)) where
        pub block_open : (j : ℕ) (why : GrammarFault) → RightToken ts close_brace k (stopped j why)
            → RightBlock ts d loop i (stopped j why)
        block_open j why y = block_inside fits (stopped j why) (closed_missing
            (Star (OneStatement (d + 1) loop)) close_brace inside_framed inside_follow x y)

        pub block_found : (j : ℕ) → RightToken ts close_brace k (found tt j)
            → RightBlock ts d loop i (found (block_of ss) j)
        block_found j y = block_inside fits (found ss j) (closed_found (Star (OneStatement (d + 1) loop)) close_brace
            inside_framed inside_follow x y)

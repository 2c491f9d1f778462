-- Conditions, assignments, calls and jumps: what is right about reading one.
use Rattle.std.proofs.Common.{◌≡◌, ℕ, ◌+◌, ◌<◌, ◌≤◌, Bool, List, length, slice_get, Some, None, option_and_then, refl}
use Rattle.std.proofs.Common.{sym, ap, ◌∙◌, arith}
use Rattle.fmp_lex.specs.declared.reading.GrammarFault.{GrammarFault}
use Rattle.fmp_lex.specs.declared.token.TokenKind.{TokenKind}
use Rattle.fmp_lex.specs.Reading.{Rel, At, Seq, OneToken, Item, ParseResult, found, stopped, map_result, Right}
use Rattle.fmp_lex.specs.Reading.{Anywhere, RightToken}
use Rattle.fmp_lex.proofs.Sequences.{Framed, Fills, Follows, Between, item_framed, item_found, seq_then, seq_stop}
use Rattle.fmp_lex.proofs.Sequences.{right_as}
use Rattle.fmp_lex.proofs.Repetitions.{Behind, Closed, behind_fills, behind_then, behind_stop, closed_fills}
use Rattle.fmp_lex.proofs.Repetitions.{closed_found, closed_missing, closed_stop}
use Rattle.fmp_tasklang.specs.declared.trees.Word.{Word}
use Rattle.fmp_tasklang.specs.Trees.{ExpressionTree, StatementTree, service_call}
use Rattle.fmp_tasklang.specs.Expressions.{loosest}
use Rattle.fmp_tasklang.specs.Calls.{service_of, Called, call_tree, OneCall}
use Rattle.fmp_tasklang.specs.Statements.{jump_of}
use Rattle.fmp_tasklang.specs.Reading.{SourceTree, by_value, by_call, ChangeTree, to_variable, to_element, changed}
use Rattle.fmp_tasklang.specs.Reading.{EndsExpression, OneWord, Bracketed, OneExpression, OneSource, OneVariableChange}
use Rattle.fmp_tasklang.specs.Reading.{OneElementChange, OneChange, Assignment, PlainCall, RightWord, RightBracketed}
use Rattle.fmp_tasklang.specs.Reading.{RightExpression, RightCall, RightCondition, RightSource, RightVariableChange}
use Rattle.fmp_tasklang.specs.Reading.{RightElementChange, RightChange, RightAssignment, RightPlainCall, RightJump}
use Rattle.fmp_tasklang.proofs.Arguments.{call_framed}
use Rattle.fmp_tasklang.proofs.Families.{family, service_family}
use Rattle.fmp_tasklang.proofs.Operands.{left, right, open_bracket, word_framed, bracketed_framed, expression_framed}
use Rattle.fmp_tasklang.proofs.Operands.{expression_fills, closes, Ended, ended_fills, ended_stop, ended_then}
use Rattle.fmp_tasklang.proofs.StatementFrames.{semicolon, equals, expression_family}

module _ (ts : List TokenKind) (d : ℕ) where
  -- ( expr )
  module _ (i : ℕ) where
    pub condition_missing : (j : ℕ) (why : GrammarFault) → RightToken ts left i (stopped j why)
        → RightCondition ts d i (stopped j why)
    condition_missing j why x = behind_stop left (Ended d right) (ended_fills d right) x

    module _ (k : ℕ) (x : RightToken ts left i (found tt k)) where
      pub condition_stop : (j : ℕ) (why : GrammarFault) → RightExpression ts d loosest k (stopped j why)
          → RightCondition ts d i (stopped j why)
      condition_stop j why y = behind_then left (Ended d right) x (stopped j why)
          (ended_stop d right (refl, refl) ts k j why y)

      module _ (e : ExpressionTree) (l : ℕ) (y : RightExpression ts d loosest k (found e l)) where
        pub condition_open : (j : ℕ) (why : GrammarFault) → RightToken ts right l (stopped j why)
            → RightCondition ts d i (stopped j why)
        condition_open j why z = behind_then left (Ended d right) x (stopped j why)
            (ended_then d right (refl, refl) ts k e l y (stopped j why) z)

        pub condition_found : (j : ℕ) → RightToken ts right l (found tt j) → RightCondition ts d i (found e j)
        condition_found j z = behind_then left (Ended d right) x (found e j)
            (ended_then d right (refl, refl) ts k e l y (found tt j) z)

  -- expr | call
  module _ (i : ℕ) where
    call_back : (us : List TokenKind) (limit : ℕ) (e : SourceTree) (j : ℕ) → family (slice_get us i) ≡ 3
        → OneSource d us limit i e j →
        (c : Called) × (e ≡ by_call c) × OneCall d us limit i c j × Unit {0}
    call_back us limit (by_value e) j at r = let f = expression_family us limit r in absurd (omega arith)
    call_back us limit (by_call c) j at r = (c, refl, r, tt)

    pub source_call : (s : _) → option_and_then service_of (slice_get ts i) ≡ Some s → (o : ParseResult Called)
        → RightCall ts d i o → RightSource ts d i (map_result by_call o)
    source_call s is o x = right_as (OneCall d) (OneSource d) by_call (λ us limit c j r. r)
        (λ us limit e j at r ends. call_back us limit e j (ap family at ∙ service_family (slice_get ts i) s is) r) o x

    value_back : (us : List TokenKind) (limit : ℕ) (e : SourceTree) (j : ℕ)
        → option_and_then service_of (slice_get us i) ≡ None → OneSource d us limit i e j
        → EndsExpression loosest us j →
        (v : ExpressionTree) × (e ≡ by_value v) × OneExpression d loosest us limit i v j × EndsExpression loosest us j
    value_back us limit (by_value e) j none r ends = (e, refl, r, ends)
    value_back us limit (by_call c) j none r ends = let e : None ≡ Some c.service = sym none ∙ r.3.0 in absurd (cc)

    pub source_value : None ≡ option_and_then service_of (slice_get ts i) → (o : ParseResult ExpressionTree)
        → RightExpression ts d loosest i o → RightSource ts d i (map_result by_value o)
    source_value none o x = right_as (OneExpression d loosest) (OneSource d) by_value (λ us limit v j r. r)
        (λ us limit e j at r ends. value_back us limit e j (ap (option_and_then service_of) at ∙ sym none) r ends) o x

  source_up : (us : List TokenKind) (limit i : ℕ) (e : SourceTree) (j : ℕ) → OneSource d us limit i e j → i ≤ j
  source_up us limit i (by_value e) j x = (expression_framed d loosest).up us limit i e j x
  source_up us limit i (by_call c) j x = (call_framed d).up us limit i c j x

  source_same : (vs us : List TokenKind) (limit lower i : ℕ) (e : SourceTree) (j : ℕ) → lower ≤ limit
      → OneSource d vs limit i e j → Between i j vs us → OneSource d us lower i e j
  source_same vs us limit lower i (by_value e) j low x same = (expression_framed d loosest).same vs us limit lower i e
      j low x same
  source_same vs us limit lower i (by_call c) j low x same = (call_framed d).same vs us limit lower i c j low x same

  source_framed : Framed (OneSource d)
  source_framed = record { up = source_up; same = source_same }

  source_fills : Fills (OneSource d)
  source_fills us limit low = let x = expression_fills d loosest us limit low in
      record { other = x.other; same = x.same; long = x.long; tree = by_value x.tree; reads = x.reads }

  -- = source ;
  abbrev Stored : Rel SourceTree
  Stored = Closed (OneSource d) semicolon

  stored_fills : Fills Stored
  stored_fills = closed_fills (OneSource d) semicolon source_framed source_fills

  source_closed : Follows (EndsExpression loosest) (OneToken semicolon) Anywhere
  source_closed = closes semicolon (refl, refl)

  module _ (i : ℕ) where
    pub equals_stop : (j : ℕ) (why : GrammarFault) → RightToken ts equals i (stopped j why)
        → RightVariableChange ts d i (stopped j why)
    equals_stop j why y = behind_stop equals Stored stored_fills y

    module _ (l : ℕ) (y : RightToken ts equals i (found tt l)) where
      pub source_stop : (j : ℕ) (why : GrammarFault) → RightSource ts d l (stopped j why)
          → RightVariableChange ts d i (stopped j why)
      source_stop j why z = behind_then equals Stored y (stopped j why)
          (closed_stop (OneSource d) semicolon source_framed source_closed z)

      module _ (r : SourceTree) (m : ℕ) (z : RightSource ts d l (found r m)) where
        pub source_open : (j : ℕ) (why : GrammarFault) → RightToken ts semicolon m (stopped j why)
            → RightVariableChange ts d i (stopped j why)
        source_open j why v = behind_then equals Stored y (stopped j why)
            (closed_missing (OneSource d) semicolon source_framed source_closed z v)

        pub source_found : (j : ℕ) → RightToken ts semicolon m (found tt j) → RightVariableChange ts d i (found r j)
        source_found j v = behind_then equals Stored y (found r j) (closed_found
            (OneSource d) semicolon source_framed source_closed z v)

  -- [ expr ] = expr ;
  abbrev Valued : Rel ExpressionTree
  Valued = Behind equals (Ended d semicolon)

  valued_fills : Fills Valued
  valued_fills = behind_fills equals (Ended d semicolon) (ended_fills d semicolon)

  module _ (i : ℕ) where
    pub element_stop : (j : ℕ) (why : GrammarFault) → RightBracketed ts d i (stopped j why)
        → RightElementChange ts d i (stopped j why)
    element_stop j why x = seq_stop (Bracketed d) Valued (bracketed_framed d) valued_fills
        (λ us limit n b m y ends. tt) x

    module _ (index : ExpressionTree) (k : ℕ) (x : RightBracketed ts d i (found index k)) where
      after_index : (o : ParseResult ExpressionTree) → Right (At Valued k) Anywhere ts k o
          → RightElementChange ts d i (map_result (λ (e : ExpressionTree). (index, e)) o)
      after_index (found e j) y = seq_then (Bracketed d) Valued (bracketed_framed d) (λ us limit n b m y ends. tt) x
          (found e j) y
      after_index (stopped j why) y = seq_then (Bracketed d) Valued (bracketed_framed d)
          (λ us limit n b m y ends. tt) x (stopped j why) y

      pub element_equals : (j : ℕ) (why : GrammarFault) → RightToken ts equals k (stopped j why)
          → RightElementChange ts d i (stopped j why)
      element_equals j why y = after_index (stopped j why) (behind_stop equals (Ended d semicolon)
          (ended_fills d semicolon) y)

      module _ (l : ℕ) (y : RightToken ts equals k (found tt l)) where
        pub element_value_stop : (j : ℕ) (why : GrammarFault) → RightExpression ts d loosest l (stopped j why)
            → RightElementChange ts d i (stopped j why)
        element_value_stop j why z = after_index (stopped j why) (behind_then equals (Ended d semicolon) y
            (stopped j why) (ended_stop d semicolon (refl, refl) ts l j why z))

        module _ (e : ExpressionTree) (m : ℕ) (z : RightExpression ts d loosest l (found e m)) where
          pub element_open : (j : ℕ) (why : GrammarFault) → RightToken ts semicolon m (stopped j why)
              → RightElementChange ts d i (stopped j why)
          element_open j why v = after_index (stopped j why) (behind_then equals (Ended d semicolon) y (stopped j why)
              (ended_then d semicolon (refl, refl) ts l e m z (stopped j why) v))

          pub element_found : (j : ℕ) → RightToken ts semicolon m (found tt j)
              → RightElementChange ts d i (found (index, e) j)
          element_found j v = after_index (found e j) (behind_then equals (Ended d semicolon) y (found e j)
              (ended_then d semicolon (refl, refl) ts l e m z (found tt j) v))

  -- which of the two it is
  module _ (i : ℕ) where
    variable_back : (us : List TokenKind) (limit : ℕ) (e : ChangeTree) (j : ℕ)
        → (slice_get us i ≡ Some open_bracket → ⊥) → OneChange d us limit i e j →
        (r : SourceTree) × (e ≡ to_variable r) × OneVariableChange d us limit i r j × Unit {0}
    variable_back us limit (to_variable r) j is_not x = (r, refl, x, tt)
    variable_back us limit (to_element p) j is_not x = absurd (is_not x.1.1.1.0)

    pub change_variable : (slice_get ts i ≡ Some open_bracket → ⊥) → (o : ParseResult SourceTree)
        → RightVariableChange ts d i o → RightChange ts d i (map_result to_variable o)
    change_variable is_not o x = right_as (OneVariableChange d) (OneChange d) to_variable (λ us limit r j x. x)
        (λ us limit e j at r ends. variable_back us limit e j (λ is. is_not (sym at ∙ is)) r) o x

    element_back : (us : List TokenKind) (limit : ℕ) (e : ChangeTree) (j : ℕ) → slice_get us i ≡ Some open_bracket
        → OneChange d us limit i e j →
        (p : ExpressionTree × ExpressionTree) × (e ≡ to_element p) × OneElementChange d us limit i p j × Unit {0}
    element_back us limit (to_variable r) j is x = let e : Some open_bracket ≡ Some equals = sym is
        ∙ x.1.0 in absurd (cc)
    element_back us limit (to_element p) j is x = (p, refl, x, tt)

    pub change_element : slice_get ts i ≡ Some open_bracket → (o : ParseResult (ExpressionTree × ExpressionTree))
        → RightElementChange ts d i o →
        RightChange ts d i (map_result to_element o)
    change_element is o x = right_as (OneElementChange d) (OneChange d) to_element (λ us limit p j x. x)
        (λ us limit e j at r ends. element_back us limit e j (at ∙ is) r) o x

  change_fills : Fills (OneChange d)
  change_fills us limit low = let x = behind_fills equals Stored stored_fills us limit low in
      record { other = x.other; same = x.same; long = x.long; tree = to_variable x.tree; reads = x.reads }

  -- name = source ; | name [ expr ] = expr ;
  abbrev Assigning : Rel (Word × ChangeTree)
  Assigning = Seq OneWord (OneChange d)

  module _ (i : ℕ) where
    assignment_as : (o : ParseResult (Word × ChangeTree)) → Right (At Assigning i) Anywhere ts i o →
        RightAssignment ts d i (map_result (λ (p : Word × ChangeTree). changed p.0 p.1) o)
    assignment_as o x = right_as Assigning (Assignment d) (λ p. changed p.0 p.1)
        (λ us limit p j s. (p.0, p.1, refl, s.0, s.1, s.2))
        (λ us limit e j at r ends. ((r.0, r.1), r.2, (r.3, r.4, r.5), tt)) o x

    pub target_stop : (j : ℕ) (why : GrammarFault) → RightWord ts i (stopped j why)
        → RightAssignment ts d i (stopped j why)
    target_stop j why x = assignment_as (stopped j why) (seq_stop OneWord (OneChange d) word_framed change_fills
        (λ us limit n b m y ends. tt) x)

    pub assignment_then : (w : Word) (k : ℕ) → RightWord ts i (found w k) → (o : ParseResult ChangeTree)
        → RightChange ts d k o →
        RightAssignment ts d i (map_result (changed w) o)
    assignment_then w k x (found c j) y = assignment_as (found (w, c) j)
        (seq_then OneWord (OneChange d) word_framed (λ us limit n b m y ends. tt) x (found c j) y)
    assignment_then w k x (stopped j why) y = assignment_as (stopped j why)
        (seq_then OneWord (OneChange d) word_framed (λ us limit n b m y ends. tt) x (stopped j why) y)

  -- call ;
  module _ (i : ℕ) where
    plain_as : (o : ParseResult Called) → Right (At (Closed (OneCall d) semicolon) i) Anywhere ts i o →
        RightPlainCall ts d i (map_result (λ (c : Called). service_call (call_tree None c)) o)
    plain_as o x = right_as (Closed (OneCall d) semicolon) (PlainCall d) (λ c. service_call (call_tree None c))
        (λ us limit c j r. (c, refl, r.0, r.1, r.2)) (λ us limit e j at r ends. (r.0, r.1, (r.2, r.3, r.4), tt)) o x

    pub plain_stop : (j : ℕ) (why : GrammarFault) → RightCall ts d i (stopped j why)
        → RightPlainCall ts d i (stopped j why)
    plain_stop j why x = plain_as (stopped j why) (closed_stop (OneCall d) semicolon (call_framed d)
        (λ us limit n b m y ends. tt) x)

    module _ (c : Called) (k : ℕ) (x : RightCall ts d i (found c k)) where
      pub plain_open : (j : ℕ) (why : GrammarFault) → RightToken ts semicolon k (stopped j why)
          → RightPlainCall ts d i (stopped j why)
      plain_open j why y = plain_as (stopped j why) (closed_missing (OneCall d) semicolon (call_framed d)
          (λ us limit n b m y ends. tt) x y)

      pub plain_found : (j : ℕ) → RightToken ts semicolon k (found tt j)
          → RightPlainCall ts d i (found (service_call (call_tree None c)) j)
      plain_found j y = plain_as (found c j) (closed_found (OneCall d) semicolon (call_framed d)
          (λ us limit n b m y ends. tt) x y)

-- a jump and `;`
module _ (ts : List TokenKind) (loop : Bool) (i : ℕ) (s : StatementTree) (lt : i < length ts)
    (is : option_and_then (jump_of loop) (slice_get ts i) ≡ Some s) where
  pub jump_open : (j : ℕ) (why : GrammarFault) → RightToken ts semicolon (i + 1) (stopped j why)
      → RightJump ts loop i (stopped j why)
  jump_open j why y = closed_missing (Item (jump_of loop)) semicolon (item_framed (jump_of loop))
      (λ us limit n b m y ends. tt) (item_found (jump_of loop) ts i s lt is) y

  pub jump_found : (j : ℕ) → RightToken ts semicolon (i + 1) (found tt j) → RightJump ts loop i (found s j)
  jump_found j y = closed_found (Item (jump_of loop)) semicolon (item_framed (jump_of loop))
      (λ us limit n b m y ends. tt) (item_found (jump_of loop) ts i s lt is) y

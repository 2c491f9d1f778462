-- Variables, bodies and the whole text: what is right about reading them.
use Rattle.std.proofs.Common.{◌≡◌, ℕ, ℤ, pos, ◌+◌, ◌<◌, ◌≤◌, false, List, [], ◌∷◌, length, slice_get, Option, Some}
use Rattle.std.proofs.Common.{None, option_and_then, refl, sym, ap, ap₂, subst, ◌∙◌, arith, Err}
use Rattle.std.proofs.lemmas.Option.{slice_get_past}
use Rattle.fmp_lex.specs.declared.reading.GrammarFault.{GrammarFault}
use Rattle.fmp_lex.specs.declared.reading.GrammarFault.TheVariants.{Syntax}
use Rattle.fmp_lex.specs.declared.reading.ReadError.{ReadError}
use Rattle.fmp_lex.specs.declared.reading.ReadError.TheVariants.{Memory, Fault}
use Rattle.fmp_lex.specs.declared.token.TokenKind.{TokenKind}
use Rattle.fmp_lex.specs.declared.token.TokenKind.TheVariants as kind
use Rattle.fmp_base.specs.declared.words.Keyword.TheVariants as keyword
use Rattle.fmp_lex.specs.Reading.{Rel, At, Seq, Star, OneToken, Item, ParseResult, found, stopped, map_result, Right}
use Rattle.fmp_lex.specs.Reading.{Anywhere, RightToken, IsWhole, IsFirstFault, Answers}
use Rattle.fmp_lex.proofs.Sequences.{Framed, Fills, Follows, Between, between_front, between_rest, item_framed}
use Rattle.fmp_lex.proofs.Sequences.{item_fills, item_found, item_missing, token_found, seq_framed, seq_fills, seq_then}
use Rattle.fmp_lex.proofs.Sequences.{seq_stop, right_as}
use Rattle.fmp_lex.proofs.Repetitions.{Behind, Closed, behind_framed, behind_fills, behind_then, behind_stop}
use Rattle.fmp_lex.proofs.Repetitions.{closed_framed, closed_fills, closed_found, closed_missing, closed_stop}
use Rattle.fmp_lex.proofs.Repetitions.{star_framed, star_fills, star_none, star_more, star_stop}
use Rattle.fmp_lex.proofs.Wholes.{whole_found, whole_longer, whole_stopped}
use Rattle.fmp_tasklang.specs.declared.trees.BodyKind.{BodyKind}
use Rattle.fmp_tasklang.specs.declared.trees.Declaration.{Declaration}
use Rattle.fmp_tasklang.specs.declared.trees.Length.{Length}
use Rattle.fmp_tasklang.specs.declared.trees.Word.{Word}
use Rattle.fmp_tasklang.specs.Trees.{StatementTree, BodyTree}
use Rattle.fmp_tasklang.specs.Blocks.{block_of}
use Rattle.fmp_tasklang.specs.Grammar.{body_kind_of, number_of, OneLength, OneVariable, OneBody, Bodies}
use Rattle.fmp_tasklang.specs.Reading.{EndsOperand, EndsVariables, EndsBodies, OneWord, OneCount, OneStatement}
use Rattle.fmp_tasklang.specs.Reading.{bodies_view, RightWord, RightCount, RightLength, RightStatements, RightVariable}
use Rattle.fmp_tasklang.specs.Reading.{RightVariables, RightBody, RightBodies, IsVerdict}
use Rattle.fmp_tasklang.proofs.Layers.{token_there}
use Rattle.fmp_tasklang.proofs.Operands.{open_bracket, close_bracket, word_framed, word_fills}
use Rattle.fmp_tasklang.proofs.StatementFrames.{open_brace, close_brace, semicolon, statement_framed, to_star}
use Rattle.fmp_tasklang.proofs.StatementFrames.{from_star, BeginsNone, none_begins}

abbrev pub var_word : TokenKind
var_word = kind.Keyword keyword.Var

-- nothing, or [ number ]
abbrev Counted : Rel Length
Counted = Behind open_bracket (Closed OneCount close_bracket)

count_framed : Framed OneCount
count_framed = record {
  up = λ us limit i l j x. omega (arith, x.1.1);
  same = λ ts us limit lower i l j low x same. (
    x.0,
    (item_framed number_of).same ts us limit lower i l.places j low
        x.1 same,
  );
}

abbrev pub count_here : ℕ → ℤ → Length
count_here i n = record { places = n; at = i }

count_as : (ts : List TokenKind) (i : ℕ) (o : ParseResult ℤ) → Right (At (Item number_of) i) Anywhere ts i o
    → RightCount ts i (map_result (count_here i) o)
count_as ts i o x = right_as (Item number_of) OneCount (count_here i) (λ us limit n j r. (refl, r))
    (λ us limit l j at r ends. (l.places, ap (λ k. record { places = l.places; at = k }) r.0, r.1, tt)) o x

zero_number : Fills (Item number_of)
zero_number = item_fills number_of (kind.Number (pos 0)) (pos 0) refl

pub count_missing : (ts : List TokenKind) (i : ℕ) → None ≡ option_and_then number_of (slice_get ts i) → i ≤ length ts
    → RightCount ts i (stopped i Syntax)
count_missing ts i none within = count_as ts i (stopped i Syntax) (item_missing number_of ts i zero_number
    (λ a is. let e : None ≡ Some a = none ∙ is in absurd (cc)) within)

pub count_found : (ts : List TokenKind) (i : ℕ) (n : ℤ) → i < length ts → option_and_then number_of (slice_get ts i)
    ≡ Some n → RightCount ts i (found (count_here i n) (i + 1))
count_found ts i n lt is = count_as ts i (found n (i + 1)) (item_found number_of ts i n lt is)

count_fills : Fills OneCount
count_fills us limit low = let x = zero_number us limit low in
    record {
      other = x.other;
      same = x.same;
      long = x.long;
      tree = record { places = x.tree; at = length us };
      reads = (refl, x.reads);
    }

counted_framed : Framed Counted
counted_framed = behind_framed open_bracket (Closed OneCount close_bracket)
    (closed_framed OneCount close_bracket count_framed)

length_up : (us : List TokenKind) (limit i : ℕ) (o : Option Length) (j : ℕ) → OneLength us limit i o j → i ≤ j
length_up us limit i None j x = omega (arith, x)
length_up us limit i (Some l) j x = counted_framed.up us limit i l j x

length_same : (ts us : List TokenKind) (limit lower i : ℕ) (o : Option Length) (j : ℕ) → lower ≤ limit
    → OneLength ts limit i o j → Between i j ts us → OneLength us lower i o j
length_same ts us limit lower i None j low x same = x
length_same ts us limit lower i (Some l) j low x same = counted_framed.same ts us limit lower i l j low x same

length_framed : Framed OneLength
length_framed = record { up = length_up; same = length_same }

length_fills : Fills OneLength
length_fills us limit low = record { other = us; same = λ k lt. refl; long = omega arith; tree = None; reads = refl }

module _ (ts : List TokenKind) (i : ℕ) where
  no_length : (us : List TokenKind) (limit : ℕ) (o : Option Length) (j : ℕ) → (slice_get us i ≡ Some open_bracket → ⊥)
      → OneLength us limit i o j → (o ≡ None) × (j ≡ i)
  no_length us limit None j is_not x = (refl, x)
  no_length us limit (Some l) j is_not x = absurd (is_not x.1.0)

  some_length : (us : List TokenKind) (limit : ℕ) (o : Option Length) (j : ℕ) → slice_get us i ≡ Some open_bracket
      → EndsOperand us j → OneLength us limit i o j →
      (l : Length) × (o ≡ Some l) × Counted us limit i l j × Unit {0}
  some_length us limit None j is ends x = absurd (ends (subst (λ n. slice_get us n ≡ Some open_bracket) (sym x) is))
  some_length us limit (Some l) j is ends x = (l, refl, x, tt)

  pub length_none : (slice_get ts i ≡ Some open_bracket → ⊥) → i ≤ length ts → RightLength ts i (found None i)
  length_none is_not within = record {
    from = omega arith;
    within = within;
    reads = λ limit. refl;
    decides = λ us limit e j same low r ends. no_length us limit e j (λ is. is_not (same i (omega arith) ∙ is)) r;
  }

  module _ (is : slice_get ts i ≡ Some open_bracket) where
    length_as : (o : ParseResult Length) → Right (At (Closed OneCount close_bracket) (i + 1)) Anywhere ts (i + 1) o
        → RightLength ts i (map_result Some o)
    length_as o x = right_as Counted OneLength Some (λ us limit l j r. r)
        (λ us limit e j at r ends. some_length us limit e j (at ∙ is) ends r) o
        (behind_then open_bracket (Closed OneCount close_bracket) (token_found open_bracket ts i is) o x)

    pub length_stop : (j : ℕ) (why : GrammarFault) → RightCount ts (i + 1) (stopped j why)
        → RightLength ts i (stopped j why)
    length_stop j why x = length_as (stopped j why) (closed_stop OneCount close_bracket count_framed
        (λ us limit n b m y ends. tt) x)

    module _ (l : Length) (k : ℕ) (x : RightCount ts (i + 1) (found l k)) where
      pub length_open : (j : ℕ) (why : GrammarFault) → RightToken ts close_bracket k (stopped j why)
          → RightLength ts i (stopped j why)
      length_open j why y = length_as (stopped j why) (closed_missing OneCount close_bracket count_framed
          (λ us limit n b m y ends. tt) x y)

      pub length_found : (j : ℕ) → RightToken ts close_bracket k (found tt j) → RightLength ts i (found (Some l) j)
      length_found j y = length_as (found l j) (closed_found OneCount close_bracket count_framed
          (λ us limit n b m y ends. tt) x y)

-- var name ; | var name [ number ] ;
abbrev Named : Rel (Word × Option Length)
Named = Seq OneWord (Closed OneLength semicolon)

abbrev declaration : Word × Option Length → Declaration
declaration p = record { name = p.0; length = p.1 }

last_framed : Framed (Closed OneLength semicolon)
last_framed = closed_framed OneLength semicolon length_framed

last_fills : Fills (Closed OneLength semicolon)
last_fills = closed_fills OneLength semicolon length_framed length_fills

named_framed : Framed Named
named_framed = seq_framed OneWord (Closed OneLength semicolon) word_framed last_framed

named_fills : Fills Named
named_fills = seq_fills OneWord (Closed OneLength semicolon) word_framed word_fills last_fills

-- after a length there is no other one
pub length_ends : Follows EndsOperand (OneToken semicolon) Anywhere
length_ends us limit k b j y ends = λ is. let e : Some semicolon ≡ Some open_bracket = sym y.0 ∙ is in absurd (cc)

variable_from : (us : List TokenKind) (limit i : ℕ) (v : Declaration) (j : ℕ) → OneVariable us limit i v j
    → Behind var_word Named us limit i (v.name, v.length) j
variable_from us limit i v j x = (x.0, x.1, (x.2.0, x.2.1, x.2.2))

pub variable_framed : Framed OneVariable
variable_framed = let f = behind_framed var_word Named named_framed in record {
  up = λ us limit i v j x. f.up us limit i (v.name, v.length) j (variable_from us limit i v j x);
  same = λ ts us limit lower i v j low x same. f.same ts us limit lower i (v.name, v.length) j low
      (variable_from ts limit i v j x) same;
}

module _ (ts : List TokenKind) (i : ℕ) where
  variable_as : (o : ParseResult (Word × Option Length)) → Right (At (Behind var_word Named) i) Anywhere ts i o
      → RightVariable ts i (map_result declaration o)
  variable_as o x = right_as (Behind var_word Named) OneVariable declaration (λ us limit p j r. r)
      (λ us limit v j at r ends. ((v.name, v.length), refl, r, tt)) o x

  pub variable_missing : (j : ℕ) (why : GrammarFault) → RightToken ts var_word i (stopped j why)
      → RightVariable ts i (stopped j why)
  variable_missing j why x = variable_as (stopped j why) (behind_stop var_word Named named_fills x)

  module _ (k : ℕ) (x : RightToken ts var_word i (found tt k)) where
    after_var : (o : ParseResult (Word × Option Length)) → Right (At Named k) Anywhere ts k o
        → RightVariable ts i (map_result declaration o)
    after_var o y = variable_as o (behind_then var_word Named x o y)

    pub variable_stop : (j : ℕ) (why : GrammarFault) → RightWord ts k (stopped j why)
        → RightVariable ts i (stopped j why)
    variable_stop j why y = after_var (stopped j why) (seq_stop OneWord
        (Closed OneLength semicolon) word_framed last_fills (λ us limit n b m y ends. tt) y)

    module _ (w : Word) (l : ℕ) (y : RightWord ts k (found w l)) where
      after_word : (o : ParseResult (Option Length)) → Right (At (Closed OneLength semicolon) l) Anywhere ts l o →
          RightVariable ts i (map_result (λ (n : Option Length). declaration (w, n)) o)
      after_word (found n j) z = after_var (found (w, n) j) (seq_then OneWord (Closed OneLength semicolon) word_framed
          (λ us limit n b m y ends. tt) y (found n j) z)
      after_word (stopped j why) z = after_var (stopped j why) (seq_then OneWord
          (Closed OneLength semicolon) word_framed (λ us limit n b m y ends. tt) y (stopped j why) z)

      pub variable_length : (j : ℕ) (why : GrammarFault) → RightLength ts l (stopped j why)
          → RightVariable ts i (stopped j why)
      variable_length j why z = after_word (stopped j why) (closed_stop OneLength semicolon length_framed length_ends z)

      module _ (n : Option Length) (m : ℕ) (z : RightLength ts l (found n m)) where
        pub variable_open : (j : ℕ) (why : GrammarFault) → RightToken ts semicolon m (stopped j why)
            → RightVariable ts i (stopped j why)
        variable_open j why v = after_word (stopped j why) (closed_missing OneLength semicolon length_framed
            length_ends z v)

        pub variable_found : (j : ℕ) → RightToken ts semicolon m (found tt j)
            → RightVariable ts i (found (declaration (w, n)) j)
        variable_found j v = after_word (found n j) (closed_found OneLength semicolon length_framed length_ends z v)

  module _ (is : slice_get ts i ≡ Some var_word) where
    pub variables_more : (v : Declaration) (k : ℕ) → RightVariable ts i (found v k)
        → (o : ParseResult (List Declaration)) → RightVariables ts k o →
        RightVariables ts i (map_result (λ (more : List Declaration). v ∷ more) o)
    variables_more v k x o rest = star_more OneVariable Anywhere EndsVariables ts i variable_framed
        (λ us limit n b m y ends. tt) (λ us at ends. ends (at ∙ is)) v k x o rest

    pub variables_stop : (j : ℕ) (why : GrammarFault) → RightVariable ts i (stopped j why)
        → RightVariables ts i (stopped j why)
    variables_stop j why x = star_stop OneVariable Anywhere EndsVariables ts i variable_framed
        (λ us limit n b m y ends. tt) (λ us at ends. ends (at ∙ is)) j why x

  pub variables_none : (slice_get ts i ≡ Some var_word → ⊥) → i ≤ length ts → RightVariables ts i (found [] i)
  variables_none is_not within = star_none OneVariable ts i (λ us limit a k at x. is_not (sym at ∙ x.1.0)) within

pub variable_longer : (us : List TokenKind) (limit i : ℕ) (v : Declaration) (j : ℕ) → OneVariable us limit i v j → i < j
variable_longer us limit i v j x = let up = named_framed.up us limit x.0 (v.name, v.length) j x.2 in omega
    (arith, x.1.1)

-- name { {variable} {stmt} }
abbrev Inner : Rel (List StatementTree)
Inner = Closed (Star (OneStatement 0 false)) close_brace

abbrev Declared : Rel (List Declaration × List StatementTree)
Declared = Seq (Star OneVariable) Inner

abbrev Rest : Rel (Word × (List Declaration × List StatementTree))
Rest = Seq OneWord (Behind open_brace Declared)

pub statements_framed : Framed (Star (OneStatement 0 false))
statements_framed = star_framed (OneStatement 0 false) (statement_framed 0 false)

inner_framed : Framed Inner
inner_framed = closed_framed (Star (OneStatement 0 false)) close_brace statements_framed

pub variables_framed : Framed (Star OneVariable)
variables_framed = star_framed OneVariable variable_framed

rest_framed : Framed Rest
rest_framed = seq_framed OneWord (Behind open_brace Declared) word_framed (behind_framed open_brace Declared
    (seq_framed (Star OneVariable) Inner variables_framed inner_framed))

inner_fills : Fills Inner
inner_fills = closed_fills (Star (OneStatement 0 false)) close_brace statements_framed
    (star_fills (OneStatement 0 false))

declared_fills : Fills Declared
declared_fills = seq_fills (Star OneVariable) Inner variables_framed (star_fills OneVariable) inner_fills

braces_fills : Fills (Behind open_brace Declared)
braces_fills = behind_fills open_brace Declared declared_fills

-- after the variables there is none
no_jump_var : BeginsNone false (Some var_word)
no_jump_var = record {
  no_name = refl;
  no_service = refl;
  no_jump = refl;
  no_if = λ e. absurd (cc);
  no_while = λ e. absurd (cc);
}

pub variables_follow : Follows EndsVariables Inner Anywhere
variables_follow us limit k [] j x ends = λ is.
    let e : Some close_brace ≡ Some var_word = sym x.2.0 ∙ (ap (slice_get us) x.1 ∙ is) in absurd (cc)
variables_follow us limit k (s ∷ ss) j x ends = λ is. none_begins us limit 0 false
    (subst (λ o. BeginsNone false o) (sym is) no_jump_var) x.1.1

abbrev body_of : ℕ → BodyKind → Word × (List Declaration × List StatementTree) → BodyTree
body_of i b p = record { kind = b; at = i; name = p.0; variables = p.1.0; statements = block_of p.1.1 }

-- what stands after the first word of a body
abbrev rest_tree : BodyTree → List StatementTree → Word × (List Declaration × List StatementTree)
rest_tree b ss = (b.name, (b.variables, ss))

rest_from : (us : List TokenKind) (limit i : ℕ) (b : BodyTree) (j : ℕ) (x : OneBody us limit i b j)
    → Rest us limit x.1 (rest_tree b x.9) j
rest_from us limit i b j x = (x.3, x.4, (x.5, x.6, (x.7, x.8, (x.11, to_star us limit 0 false x.12, x.13))))

pub body_framed : Framed OneBody
body_framed = record {
  up = λ us limit i b j x. let up = rest_framed.up us limit x.1 (rest_tree b x.9) j
      (rest_from us limit i b j x) in omega (arith, x.2.1);
  same = λ ts us limit lower i b j low x same.
      let up = rest_framed.up ts limit x.1 (rest_tree b x.9) j (rest_from ts limit i b j x) in
      let first = (item_framed body_kind_of).same ts us limit lower i b.kind x.1 low x.2
      (between_front i x.1 j ts us up same) in
      let r = rest_framed.same ts us limit lower x.1 (rest_tree b x.9) j low (rest_from ts limit i b j x)
      (between_rest i x.1 j ts us (omega (arith, x.2.1)) same) in (
        x.0,
        x.1,
        first,
        r.0,
        r.1,
        r.2.0,
        r.2.1,
        r.2.2.0,
        r.2.2.1,
        x.9,
        x.10,
        r.2.2.2.0,
        from_star us lower 0 false
            r.2.2.0 x.9 r.2.2.2.0 r.2.2.2.1,
        r.2.2.2.2,
      );
}

module _ (ts : List TokenKind) (i : ℕ) (b : BodyKind) (is : option_and_then body_kind_of (slice_get ts i) ≡ Some b)
  where
    abbrev word : (t : TokenKind) × (slice_get ts i ≡ Some t) × (body_kind_of t ≡ Some b)
    word = token_there body_kind_of (slice_get ts i) b is

    one_kind : (a : BodyKind) → Some a ≡ Some b → a ≡ b
    one_kind a e = cc

    body_to : (us : List TokenKind) (limit : ℕ) (p : Word × (List Declaration × List StatementTree)) (j : ℕ)
        → Behind word.0 Rest us limit i p j → OneBody us limit i (body_of i b p) j
    body_to us limit p j r = (
      refl,
      r.0,
      (ap (option_and_then body_kind_of) r.1.0 ∙ word.2, r.1.1),
      r.2.0,
      r.2.1,
      r.2.2.0,
      r.2.2.1,
      r.2.2.2.0,
      r.2.2.2.1,
      p.1.1,
      refl,
      r.2.2.2.2.0,
      from_star us limit 0 false r.2.2.2.0 p.1.1 r.2.2.2.2.0 r.2.2.2.2.1,
      r.2.2.2.2.2,
    )

    body_back : (us : List TokenKind) (limit : ℕ) (e : BodyTree) (j : ℕ) → slice_get us i ≡ slice_get ts i
        → OneBody us limit i e j →
        (p : Word × (List Declaration × List StatementTree)) × (e ≡ body_of i b p) × Behind word.0 Rest us limit i p j
        × Unit {0}
    body_back us limit e j at r =
        let one = one_kind e.kind (sym r.2.0 ∙ (ap (option_and_then body_kind_of) at ∙ is)) in (
          rest_tree e r.9,
          ap₂ (λ (k : BodyKind) (q : ℕ × _). record {
            kind = k;
            at = q.0;
            name = e.name;
            variables = e.variables;
            statements = q.1;
          }) one (ap₂ (λ u v. (u, v)) r.0 r.10),
          (r.1, (at ∙ word.1, r.2.1), rest_from us limit i e j r),
          tt,
        )

    body_as : (o : ParseResult (Word × (List Declaration × List StatementTree)))
        → Right (At Rest (i + 1)) Anywhere ts (i + 1) o → RightBody ts i (map_result (body_of i b) o)
    body_as o x = right_as (Behind word.0 Rest) OneBody (body_of i b) (λ us limit p j r. body_to us limit p j r)
        (λ us limit e j at r ends. body_back us limit e j at r) o (behind_then word.0 Rest
        (token_found word.0 ts i word.1) o x)

    pub body_name : (j : ℕ) (why : GrammarFault) → RightWord ts (i + 1) (stopped j why) → RightBody ts i (stopped j why)
    body_name j why x = body_as (stopped j why) (seq_stop OneWord (Behind open_brace Declared) word_framed braces_fills
        (λ us limit n b m y ends. tt) x)

    module _ (w : Word) (k : ℕ) (x : RightWord ts (i + 1) (found w k)) where
      after_name : (o : ParseResult (List Declaration × List StatementTree))
          → Right (At (Behind open_brace Declared) k) Anywhere ts k o →
          RightBody ts i (map_result (λ (q : List Declaration × List StatementTree). body_of i b (w, q)) o)
      after_name (found q j) y = body_as (found (w, q) j) (seq_then OneWord (Behind open_brace Declared) word_framed
          (λ us limit n b m y ends. tt) x (found q j) y)
      after_name (stopped j why) y = body_as (stopped j why) (seq_then OneWord (Behind open_brace Declared) word_framed
          (λ us limit n b m y ends. tt) x (stopped j why) y)

      pub body_open : (j : ℕ) (why : GrammarFault) → RightToken ts open_brace k (stopped j why)
          → RightBody ts i (stopped j why)
      body_open j why y = after_name (stopped j why) (behind_stop open_brace Declared declared_fills y)

      module _ (l : ℕ) (y : RightToken ts open_brace k (found tt l)) where
        pub body_variables : (j : ℕ) (why : GrammarFault) → RightVariables ts l (stopped j why)
            → RightBody ts i (stopped j why)
        body_variables j why z = after_name (stopped j why) (behind_then open_brace Declared y (stopped j why)
            (seq_stop (Star OneVariable) Inner variables_framed inner_fills variables_follow z))

        module _ (vs : List Declaration) (m : ℕ) (z : RightVariables ts l (found vs m)) where
          after_variables : (o : ParseResult (List StatementTree)) → Right (At Inner m) Anywhere ts m o →
              RightBody ts i (map_result (λ (ss : List StatementTree). body_of i b (w, (vs, ss))) o)
          after_variables (found ss j) v = after_name (found (vs, ss) j) (behind_then open_brace Declared y
              (found (vs, ss) j)
              (seq_then (Star OneVariable) Inner variables_framed variables_follow z (found ss j) v))
          after_variables (stopped j why) v = after_name (stopped j why) (behind_then open_brace Declared y
              (stopped j why)
              (seq_then (Star OneVariable) Inner variables_framed variables_follow z (stopped j why) v))

          pub body_statements : (j : ℕ) (why : GrammarFault) → RightStatements ts 0 false m (stopped j why)
              → RightBody ts i (stopped j why)
          body_statements j why v = after_variables (stopped j why) (closed_stop
              (Star (OneStatement 0 false)) close_brace statements_framed (λ us limit n b m y ends. y.0) v)

          module _ (ss : List StatementTree) (n : ℕ) (v : RightStatements ts 0 false m (found ss n)) where
            pub body_closed : (j : ℕ) (why : GrammarFault) → RightToken ts close_brace n (stopped j why)
                → RightBody ts i (stopped j why)
            body_closed j why u = after_variables (stopped j why) (closed_missing
                (Star (OneStatement 0 false)) close_brace statements_framed (λ us limit n b m y ends. y.0) v u)

            pub body_found : (j : ℕ) → RightToken ts close_brace n (found tt j)
                → RightBody ts i (found (body_of i b (w, (vs, ss))) j)
            body_found j u = after_variables (found ss j) (closed_found (Star (OneStatement 0 false)) close_brace
                statements_framed (λ us limit n b m y ends. y.0) v u)

    goes_on : (us : List TokenKind) → slice_get us i ≡ slice_get ts i → EndsBodies us i → ⊥
    goes_on us at ends = let e : None ≡ Some b = sym ends ∙ (ap (option_and_then body_kind_of) at ∙ is) in absurd (cc)

    pub bodies_more : (e : BodyTree) (k : ℕ) → RightBody ts i (found e k) → (o : ParseResult (List BodyTree))
        → RightBodies ts k o →
        RightBodies ts i (map_result (λ (more : List BodyTree). e ∷ more) o)
    bodies_more e k x o rest = star_more OneBody Anywhere EndsBodies ts i body_framed
        (λ us limit n b m y ends. tt) goes_on e k x o rest

    pub bodies_stop : (j : ℕ) (why : GrammarFault) → RightBody ts i (stopped j why) → RightBodies ts i (stopped j why)
    bodies_stop j why x = star_stop OneBody Anywhere EndsBodies ts i body_framed
        (λ us limit n b m y ends. tt) goes_on j why x

pub bodies_none : (ts : List TokenKind) (i : ℕ) → None ≡ option_and_then body_kind_of (slice_get ts i) → i ≤ length ts
    → RightBodies ts i (found [] i)
bodies_none ts i none within = star_none OneBody ts i
    (λ us limit b k at x. let e : None ≡ Some b.kind = none ∙ (ap (option_and_then body_kind_of) (sym at) ∙ x.2.0) in
    absurd (cc)) within

pub body_longer : (us : List TokenKind) (limit i : ℕ) (b : BodyTree) (j : ℕ) → OneBody us limit i b j → i < j
body_longer us limit i b j x = let up = rest_framed.up us limit x.1 (rest_tree b x.9) j
    (rest_from us limit i b j x) in omega (arith, x.2.1)

-- what the reader of all tokens answers
pub ends_there : (us : List TokenKind) → EndsBodies us (length us)
ends_there us = ap (option_and_then body_kind_of) (slice_get_past us (length us) (omega arith))

pub verdict_stopped : (ts : List TokenKind) (e : ReadError) → Answers bodies_view (Err e) (RightBodies ts 0)
    → IsVerdict ts (Err e)
verdict_stopped ts Memory a = tt
verdict_stopped ts (Fault f) a = whole_stopped Bodies EndsBodies ends_there ts f.at f.why a

pub verdict_longer : (ts : List TokenKind) (t : List BodyTree) (j : ℕ) → j < length ts → RightBodies ts 0 (found t j)
    → IsFirstFault Bodies ts j Syntax
verdict_longer ts t j lt x = whole_longer Bodies EndsBodies ends_there (star_framed OneBody body_framed) ts t j lt x

pub verdict_found : (ts : List TokenKind) (t : List BodyTree) (j : ℕ) → length ts ≤ j → RightBodies ts 0 (found t j) →
    IsWhole Bodies ts t × ((other : List BodyTree) → IsWhole Bodies ts other → other ≡ t)
verdict_found ts t j past x = whole_found Bodies EndsBodies ends_there ts t j past x

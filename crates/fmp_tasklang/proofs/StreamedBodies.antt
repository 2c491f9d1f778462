-- What is right about reading a body while a window moves over its tokens.
use Rattle.std.proofs.Common.{◌≡◌, ℕ, ◌+◌, ◌<◌, ◌≤◌, false, List, ◌++◌, length, slice_get, option_and_then, Some, Ok}
use Rattle.std.proofs.Common.{Err, refl, sym, subst, arith}
use Rattle.std.proofs.lemmas.List.{length-map}
use Rattle.fmp_lex.specs.declared.reading.FirstFault.{FirstFault}
use Rattle.fmp_lex.specs.declared.reading.GrammarFault.{GrammarFault}
use Rattle.fmp_lex.specs.declared.reading.ReadError.TheVariants.{Fault}
use Rattle.fmp_lex.specs.declared.token.Token.{Token}
use Rattle.fmp_lex.specs.declared.token.TokenKind.{TokenKind}
use Rattle.fmp_lex.specs.declared.window.Window.{Window}
use Rattle.fmp_lex.specs.Reading.{Rel, Seq, Star, OneToken, Item, RightToken, found, stopped, limited, kind_of}
use Rattle.fmp_lex.specs.Reading.{kinds_of}
use Rattle.fmp_lex.specs.Windows.{IsWindow, Passed, Streams}
use Rattle.fmp_lex.proofs.Repetitions.{star_framed, star_fills}
use Rattle.fmp_lex.proofs.Sequences.{Framed, item_framed, token_framed, token_fills, seq_framed, seq_fills, seq_then}
use Rattle.fmp_lex.proofs.Sequences.{seq_stop}
use Rattle.fmp_lex.proofs.Streaming.{passed_on, streams_here, streams_right, streams_as, streams_seq, streams_star}
use Rattle.fmp_lex.proofs.Windows.{passed_few}
use Rattle.fmp_tasklang.specs.declared.trees.BodyKind.{BodyKind}
use Rattle.fmp_tasklang.specs.declared.trees.Declaration.{Declaration}
use Rattle.fmp_tasklang.specs.declared.trees.Word.{Word}
use Rattle.fmp_tasklang.specs.Blocks.{block_of}
use Rattle.fmp_tasklang.specs.Grammar.{OneVariable, OneBody, body_kind_of}
use Rattle.fmp_tasklang.specs.Reading.{OneWord, OneStatement, RightWord, RightVariables}
use Rattle.fmp_tasklang.specs.Streaming.{Adds, OneHeading, RightHeading, IsStuck}
use Rattle.fmp_tasklang.specs.Trees.{StatementTree, BodyTree}
use Rattle.fmp_tasklang.proofs.BodyPaths.{variable_framed}
use Rattle.fmp_tasklang.proofs.Operands.{word_framed}
use Rattle.fmp_tasklang.proofs.StatementFrames.{open_brace, close_brace, statement_framed, from_star}

abbrev Statements : Rel (List StatementTree)
Statements = Star (OneStatement 0 false)

statements_framed : Framed Statements
statements_framed = star_framed (OneStatement 0 false) (statement_framed 0 false)

-- what was added lies after what was read before
module _ (w0 w : Window) (at i j : ℕ) (before after : List StatementTree)
    (s : Streams Statements w0 w at before i) where
  streams_added : (ss : List StatementTree) → after ≡ before ++ ss → Streams Statements w w i ss j →
      Streams Statements w0 w at after j
  streams_added ss is t = subst (λ all. Streams Statements w0 w at all j) (sym is)
      (streams_star (OneStatement 0 false) w0 w w at before i ss j (statement_framed 0 false) s t)

  pub streams_all : Adds (kinds_of w.tokens) 0 false i j before after (Ok tt) → Streams Statements w0 w at after j
  streams_all x = streams_added x.0 x.1 (streams_right Statements statements_framed w i x.0 j x.2)

  pub streams_part : (f : FirstFault) → Adds (kinds_of w.tokens) 0 false i j before after (Err (Fault f)) →
      Streams Statements w0 w at after j
  streams_part f x =
      let size : length (kinds_of w.tokens) ≡ length w.tokens = length-map w.tokens kind_of in
      let within : j ≤ length (kinds_of w.tokens) = x.4 in
      streams_added x.0 x.1 (streams_here Statements statements_framed w i x.0 j (omega arith) x.5)

-- what stands after the name
abbrev Behind : Rel (Unit {0} × List Declaration)
Behind = Seq (OneToken open_brace) (Star OneVariable)

heading_framed : Framed OneHeading
heading_framed = seq_framed OneWord Behind word_framed
    (seq_framed (OneToken open_brace) (Star OneVariable) (token_framed open_brace)
    (star_framed OneVariable variable_framed))

module _ (ts : List TokenKind) (i : ℕ) where
  pub heading_name : (j : ℕ) (why : GrammarFault) → RightWord ts i (stopped j why) → RightHeading ts i (stopped j why)
  heading_name j why x = seq_stop OneWord Behind word_framed
      (seq_fills (OneToken open_brace) (Star OneVariable) (token_framed open_brace) (token_fills open_brace)
      (star_fills OneVariable))
      (λ us limit n b m y ends. tt) x

  module _ (w : Word) (k : ℕ) (x : RightWord ts i (found w k)) where
    pub heading_open : (j : ℕ) (why : GrammarFault) → RightToken ts open_brace k (stopped j why) →
        RightHeading ts i (stopped j why)
    heading_open j why y = seq_then OneWord Behind word_framed (λ us limit n b m y ends. tt) x (stopped j why)
        (seq_stop (OneToken open_brace) (Star OneVariable) (token_framed open_brace) (star_fills OneVariable)
        (λ us limit n b m y ends. tt) y)

    module _ (l : ℕ) (y : RightToken ts open_brace k (found tt l)) where
      pub heading_variables : (j : ℕ) (why : GrammarFault) → RightVariables ts l (stopped j why) →
          RightHeading ts i (stopped j why)
      heading_variables j why z = seq_then OneWord Behind word_framed (λ us limit n b m y ends. tt) x (stopped j why)
          (seq_then (OneToken open_brace) (Star OneVariable) (token_framed open_brace) (λ us limit n b m y ends. tt) y
          (stopped j why) z)

      pub heading_found : (vs : List Declaration) (j : ℕ) → RightVariables ts l (found vs j) →
          RightHeading ts i (found (w, (tt, vs)) j)
      heading_found vs j z = seq_then OneWord Behind word_framed (λ us limit n b m y ends. tt) x (found (tt, vs) j)
          (seq_then (OneToken open_brace) (Star OneVariable) (token_framed open_brace) (λ us limit n b m y ends. tt) y
          (found vs j) z)

-- a body whose parts are read one after another
abbrev Parts : Rel (BodyKind × ((Word × (Unit {0} × List Declaration)) × (List StatementTree × Unit {0})))
Parts = Seq (Item body_kind_of) (Seq OneHeading (Seq Statements (OneToken close_brace)))

module _ (i : ℕ) (b : BodyKind) (name : Word) (vs : List Declaration) (ss : List StatementTree) (j : ℕ) where
  abbrev tree : BodyTree
  tree = record { kind = b; at = i; name = name; variables = vs; statements = block_of ss }

  parts_body : (us : List TokenKind) (limit : ℕ) → Parts us limit i (b, ((name, (tt, vs)), (ss, tt))) j →
      OneBody us limit i tree j
  parts_body us limit x =
      let heading : OneHeading us limit x.0 (name, (tt, vs)) x.2.0 = x.2.1 in
      let rest : Seq Statements (OneToken close_brace) us limit x.2.0 (ss, tt) j = x.2.2 in (
        refl,
        x.0,
        x.1,
        heading.0,
        heading.1,
        heading.2.0,
        heading.2.1,
        x.2.0,
        heading.2.2,
        ss,
        refl,
        rest.0,
        from_star us limit 0 false x.2.0 ss rest.0 rest.1,
        rest.2,
      )

  pub body_streams : (w0 w1 : Window) (n o : ℕ) → i < length w0.tokens →
      option_and_then body_kind_of (slice_get (kinds_of w0.tokens) i) ≡ Some b →
      RightHeading (kinds_of w0.tokens) (i + 1) (found (name, (tt, vs)) n) →
      Streams Statements w0 w1 n ss o → RightToken (kinds_of w1.tokens) close_brace o (found tt j) →
      Streams OneBody w0 w1 i tree j
  body_streams w0 w1 n o lt is right statements close =
      let first = streams_here (Item body_kind_of) (item_framed body_kind_of) w0 i b (i + 1) (omega arith)
      (λ limit. (is, refl)) in
      let heading = streams_right OneHeading heading_framed w0 (i + 1) (name, (tt, vs)) n right in
      let brace = streams_right (OneToken close_brace) (token_framed close_brace) w1 o tt j close in
      let last = streams_seq Statements (OneToken close_brace) w0 w1 w1 n ss o tt j statements_framed
      statements brace in
      let rest = streams_seq OneHeading (Seq Statements (OneToken close_brace)) w0 w0 w1 (i + 1)
      (name, (tt, vs)) n (ss, tt) j heading_framed heading last in
      streams_as Parts OneBody w0 w1 i (b, ((name, (tt, vs)), (ss, tt))) tree j parts_body
      (streams_seq (Item body_kind_of) (Seq OneHeading (Seq Statements (OneToken close_brace))) w0 w0 w1 i b (i + 1)
      ((name, (tt, vs)), (ss, tt)) j (item_framed body_kind_of) first rest)

-- what is so where the statements of a body are not read
pub body_lacks : (P : Type 0) (w0 : Window) (i n : ℕ) (h : Word × (Unit {0} × List Declaration))
    → i < length w0.tokens →
    RightHeading (kinds_of w0.tokens) (i + 1) (found h n) →
    ((before : List Token) → Passed w0 before n → P) → (before : List Token) → Passed w0 before i → P
body_lacks P w0 i n h lt right lacks before passed =
    let next = passed_on w0 before i (i + 1) (omega arith) (omega arith) passed in
    let behind = streams_right OneHeading heading_framed w0 (i + 1) h n right _ next in
    lacks _ behind.1

pub statements_stuck : (w0 w1 w2 : Window) (i j : ℕ) (ss : List StatementTree) → Streams Statements w0 w1 i ss j →
    IsWindow w1 → (j ≤ 1048576 → IsStuck w2) → (before : List Token) → Passed w0 before i → IsStuck w2
statements_stuck w0 w1 w2 i j ss s window stuck before passed =
    let one = s before passed in
    stuck (passed_few w1 (before ++ one.0) j window one.1)

-- the token is there
pub no_fault : (ts : List TokenKind) (t : TokenKind) (i j : ℕ) (why : GrammarFault) → slice_get ts i ≡ Some t →
    RightToken ts t i (stopped j why) → ⊥
no_fault ts t i j why is x = x.decides ts (limited j why) tt (i + 1) (λ k lt. refl) (omega arith) (is, refl) tt

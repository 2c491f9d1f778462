-- The parts of a call, one after another.
use Rattle.std.proofs.Common.{◌≡◌, ℕ, zero, suc, ◌+◌, ◌≤◌, List, [], ◌∷◌, ◌++◌, length, slice_get, drop, Option, Some}
use Rattle.std.proofs.Common.{None, option_and_then, refl, sym, ap, ap₂, subst, ◌∙◌, arith, append_assoc, append-nil}
use Rattle.fmp_base.specs.declared.services.Service.{Service}
use Rattle.fmp_lex.specs.declared.reading.GrammarFault.{GrammarFault}
use Rattle.fmp_lex.specs.declared.token.Symbol.TheVariants as symbol
use Rattle.fmp_lex.specs.declared.token.TokenKind.{TokenKind}
use Rattle.fmp_lex.specs.declared.token.TokenKind.TheVariants as kind
use Rattle.fmp_lex.specs.Reading.{Rel, At, Seq, OneToken, ParseResult, found, stopped, map_result, Right, Anywhere}
use Rattle.fmp_lex.specs.Reading.{RightToken}
use Rattle.fmp_lex.proofs.Sequences.{Framed, Fills, Between, between_front, between_rest, token_framed, token_fills}
use Rattle.fmp_lex.proofs.Sequences.{token_found, seq_fills, seq_then, seq_stop, right_as}
use Rattle.fmp_lex.proofs.Repetitions.{Behind, Closed, behind_framed, behind_fills, behind_then, behind_stop}
use Rattle.fmp_lex.proofs.Repetitions.{closed_framed, closed_fills, closed_found, closed_missing, closed_stop}
use Rattle.fmp_lex.proofs.Repetitions.{put_before}
use Rattle.fmp_lex.specs.Forms.{mark_kind, put}
use Rattle.fmp_lex.specs.declared.marks.Mark.{Mark}
use Rattle.fmp_lex.specs.declared.marks.Mark.TheVariants as mark
use Rattle.fmp_tasklang.specs.declared.forms.CallPart.{CallPart}
use Rattle.fmp_tasklang.specs.declared.forms.CallPart.TheVariants as part
use Rattle.fmp_tasklang.specs.declared.trees.Word.{Word}
use Rattle.fmp_tasklang.specs.Trees.{ExpressionTree}
use Rattle.fmp_tasklang.specs.Expressions.{loosest}
use Rattle.fmp_tasklang.specs.Calls.{service_of, call_parts, ArgumentTree, value, out, values_of, out_from, Called}
use Rattle.fmp_tasklang.specs.Calls.{called, OnePart, Parts, OneCall}
use Rattle.fmp_tasklang.specs.Reading.{OneWord, OneExpression, RightWord, RightExpression, RightPart, RightParts}
use Rattle.fmp_tasklang.specs.Reading.{RightArguments, RightCall, Arguments}
use Rattle.fmp_tasklang.proofs.Layers.{token_there}
use Rattle.fmp_tasklang.proofs.Operands.{Closer, word_framed, word_fills, expression_framed, Ended, ended_fills}
use Rattle.fmp_tasklang.proofs.Operands.{ended_stop, ended_then}

abbrev pub ampersand : TokenKind
ampersand = kind.Symbol symbol.And

pub mark_closes : (m : Mark) → Closer (mark_kind m)
mark_closes mark.LeftParen = (refl, refl)
mark_closes mark.RightParen = (refl, refl)
mark_closes mark.LeftBrace = (refl, refl)
mark_closes mark.RightBrace = (refl, refl)
mark_closes mark.Comma = (refl, refl)
mark_closes mark.Semicolon = (refl, refl)
mark_closes mark.Null = (refl, refl)

module _ (d : ℕ) where
  -- `&`, a word and a mark
  abbrev pub Outs : Mark → Rel Word
  Outs m = Behind ampersand (Closed OneWord (mark_kind m))

  ended_framed : (m : Mark) → Framed (Ended d (mark_kind m))
  ended_framed m = closed_framed (OneExpression d loosest) (mark_kind m) (expression_framed d loosest)

  pub marked_fills : (m : Mark) → Fills (Closed OneWord (mark_kind m))
  marked_fills m = closed_fills OneWord (mark_kind m) word_framed word_fills

  outs_framed : (m : Mark) → Framed (Outs m)
  outs_framed m = behind_framed ampersand (Closed OneWord (mark_kind m))
      (closed_framed OneWord (mark_kind m) word_framed)

  outs_fills : (m : Mark) → Fills (Outs m)
  outs_fills m = behind_fills ampersand (Closed OneWord (mark_kind m)) (marked_fills m)

  part_up : (p : CallPart) (us : List TokenKind) (limit i : ℕ) (a : Option ArgumentTree) (j : ℕ)
      → OnePart d p us limit i a j → i ≤ j
  part_up (part.Mark m) us limit i None j x = omega (arith, x.1)
  part_up (part.Mark m) us limit i (Some (value e)) j x = absurd x
  part_up (part.Mark m) us limit i (Some (out w)) j x = absurd x
  part_up (part.Value m) us limit i None j x = absurd x
  part_up (part.Value m) us limit i (Some (value e)) j x = (ended_framed m).up us limit i e j x
  part_up (part.Value m) us limit i (Some (out w)) j x = absurd x
  part_up (part.Out m) us limit i None j x = absurd x
  part_up (part.Out m) us limit i (Some (value e)) j x = absurd x
  part_up (part.Out m) us limit i (Some (out w)) j x = (outs_framed m).up us limit i w j x

  part_same : (p : CallPart) (ts us : List TokenKind) (limit lower i : ℕ) (a : Option ArgumentTree) (j : ℕ)
      → lower ≤ limit
      → OnePart d p ts limit i a j → Between i j ts us → OnePart d p us lower i a j
  part_same (part.Mark m) ts us limit lower i None j low x same = (token_framed (mark_kind m)).same ts us limit lower
      i tt j low x same
  part_same (part.Mark m) ts us limit lower i (Some (value e)) j low x same = absurd x
  part_same (part.Mark m) ts us limit lower i (Some (out w)) j low x same = absurd x
  part_same (part.Value m) ts us limit lower i None j low x same = absurd x
  part_same (part.Value m) ts us limit lower i (Some (value e)) j low x same =
      (ended_framed m).same ts us limit lower i e j low x same
  part_same (part.Value m) ts us limit lower i (Some (out w)) j low x same = absurd x
  part_same (part.Out m) ts us limit lower i None j low x same = absurd x
  part_same (part.Out m) ts us limit lower i (Some (value e)) j low x same = absurd x
  part_same (part.Out m) ts us limit lower i (Some (out w)) j low x same =
      (outs_framed m).same ts us limit lower i w j low x same

  part_framed : (p : CallPart) → Framed (OnePart d p)
  part_framed p = record { up = part_up p; same = part_same p }

  part_fills : (p : CallPart) → Fills (OnePart d p)
  part_fills (part.Mark m) us limit low = let x = token_fills (mark_kind m) us limit low in
      record { other = x.other; same = x.same; long = x.long; tree = None; reads = x.reads }
  part_fills (part.Value m) us limit low = let x = ended_fills d (mark_kind m) us limit low in
      record { other = x.other; same = x.same; long = x.long; tree = Some (value x.tree); reads = x.reads }
  part_fills (part.Out m) us limit low = let x = outs_fills m us limit low in
      record { other = x.other; same = x.same; long = x.long; tree = Some (out x.tree); reads = x.reads }

  -- the three kinds of parts
  module _ (ts : List TokenKind) (i : ℕ) (m : Mark) where
    mark_back : (us : List TokenKind) (limit : ℕ) (e : Option ArgumentTree) (j : ℕ)
        → OnePart d (part.Mark m) us limit i e j →
        (a : Unit {0}) × (e ≡ None) × OneToken (mark_kind m) us limit i a j × Unit {0}
    mark_back us limit None j x = (tt, refl, x, tt)
    mark_back us limit (Some (value e)) j x = absurd x
    mark_back us limit (Some (out w)) j x = absurd x

    pub mark_as : (o : ParseResult (Unit {0})) → RightToken ts (mark_kind m) i o
        → RightPart ts d (part.Mark m) i (map_result (λ (a : Unit {0}). None) o)
    mark_as o x = right_as (OneToken (mark_kind m)) (OnePart d (part.Mark m)) (λ a. None) (λ us limit a j r. r)
        (λ us limit e j at r ends. mark_back us limit e j r) o x

    value_back : (us : List TokenKind) (limit : ℕ) (e : Option ArgumentTree) (j : ℕ)
        → OnePart d (part.Value m) us limit i e j →
        (a : ExpressionTree) × (e ≡ Some (value a)) × Ended d (mark_kind m) us limit i a j × Unit {0}
    value_back us limit None j x = absurd x
    value_back us limit (Some (value e)) j x = (e, refl, x, tt)
    value_back us limit (Some (out w)) j x = absurd x

    value_as : (o : ParseResult ExpressionTree) → Right (At (Ended d (mark_kind m)) i) Anywhere ts i o →
        RightPart ts d (part.Value m) i (map_result (λ (a : ExpressionTree). Some (value a)) o)
    value_as o x = right_as (Ended d (mark_kind m)) (OnePart d (part.Value m)) (λ a. Some (value a))
        (λ us limit a j r. r)
        (λ us limit e j at r ends. value_back us limit e j r) o x

    pub value_stop : (j : ℕ) (why : GrammarFault) → RightExpression ts d loosest i (stopped j why)
        → RightPart ts d (part.Value m) i (stopped j why)
    value_stop j why x = value_as (stopped j why) (ended_stop d (mark_kind m) (mark_closes m) ts i j why x)

    module _ (e : ExpressionTree) (k : ℕ) (x : RightExpression ts d loosest i (found e k)) where
      pub value_unmarked : (j : ℕ) (why : GrammarFault) → RightToken ts (mark_kind m) k (stopped j why)
          → RightPart ts d (part.Value m) i (stopped j why)
      value_unmarked j why y = value_as (stopped j why) (ended_then d (mark_kind m) (mark_closes m) ts i e k x
          (stopped j why) y)

      pub value_found : (j : ℕ) → RightToken ts (mark_kind m) k (found tt j)
          → RightPart ts d (part.Value m) i (found (Some (value e)) j)
      value_found j y = value_as (found e j) (ended_then d (mark_kind m) (mark_closes m) ts i e k x (found tt j) y)

    out_back : (us : List TokenKind) (limit : ℕ) (e : Option ArgumentTree) (j : ℕ)
        → OnePart d (part.Out m) us limit i e j →
        (a : Word) × (e ≡ Some (out a)) × Outs m us limit i a j × Unit {0}
    out_back us limit None j x = absurd x
    out_back us limit (Some (value e)) j x = absurd x
    out_back us limit (Some (out w)) j x = (w, refl, x, tt)

    out_as : (o : ParseResult Word) → Right (At (Outs m) i) Anywhere ts i o
        → RightPart ts d (part.Out m) i (map_result (λ (a : Word). Some (out a)) o)
    out_as o x = right_as (Outs m) (OnePart d (part.Out m)) (λ a. Some (out a)) (λ us limit a j r. r)
        (λ us limit e j at r ends. out_back us limit e j r) o x

    pub out_missing : (j : ℕ) (why : GrammarFault) → RightToken ts ampersand i (stopped j why)
        → RightPart ts d (part.Out m) i (stopped j why)
    out_missing j why x = out_as (stopped j why) (behind_stop ampersand (Closed OneWord (mark_kind m))
        (marked_fills m) x)

    module _ (k : ℕ) (x : RightToken ts ampersand i (found tt k)) where
      pub out_stop : (j : ℕ) (why : GrammarFault) → RightWord ts k (stopped j why)
          → RightPart ts d (part.Out m) i (stopped j why)
      out_stop j why y = out_as (stopped j why) (behind_then ampersand (Closed OneWord (mark_kind m)) x (stopped j why)
          (closed_stop OneWord (mark_kind m) word_framed (λ us limit n b m y ends. tt) y))

      module _ (w : Word) (l : ℕ) (y : RightWord ts k (found w l)) where
        pub out_unmarked : (j : ℕ) (why : GrammarFault) → RightToken ts (mark_kind m) l (stopped j why)
            → RightPart ts d (part.Out m) i (stopped j why)
        out_unmarked j why z = out_as (stopped j why) (behind_then ampersand (Closed OneWord (mark_kind m)) x
            (stopped j why)
            (closed_missing OneWord (mark_kind m) word_framed (λ us limit n b m y ends. tt) y z))

        pub out_found : (j : ℕ) → RightToken ts (mark_kind m) l (found tt j)
            → RightPart ts d (part.Out m) i (found (Some (out w)) j)
        out_found j z = out_as (found w j) (behind_then ampersand (Closed OneWord (mark_kind m)) x (found w j)
            (closed_found OneWord (mark_kind m) word_framed (λ us limit n b m y ends. tt) y z))

  parts_up : (ps : List CallPart) (us : List TokenKind) (limit i : ℕ) (args : List ArgumentTree) (j : ℕ)
      → Parts d ps us limit i args j → i ≤ j
  parts_up [] us limit i args j x = omega (arith, x.1)
  parts_up (p ∷ ps) us limit i args j x =
      let one = part_up p us limit i x.0 x.3 x.4 in
      let rest = parts_up ps us limit x.3 x.1 j x.5 in
      omega arith

  parts_same : (ps : List CallPart) (ts us : List TokenKind) (limit lower i : ℕ) (args : List ArgumentTree) (j : ℕ)
      → lower ≤ limit → Parts d ps ts limit i args j → Between i j ts us → Parts d ps us lower i args j
  parts_same [] ts us limit lower i args j low x same = x
  parts_same (p ∷ ps) ts us limit lower i args j low x same =
      let one = part_up p ts limit i x.0 x.3 x.4 in
      let rest = parts_up ps ts limit x.3 x.1 j x.5 in (
        x.0,
        x.1,
        x.2,
        x.3,
        part_same p ts us limit lower i x.0 x.3 low x.4 (between_front i x.3 j ts us rest same),
        parts_same ps ts us limit lower x.3 x.1 j low x.5 (between_rest i x.3 j ts us one same),
      )

  pub parts_framed : (ps : List CallPart) → Framed (Parts d ps)
  parts_framed ps = record { up = parts_up ps; same = parts_same ps }

  pub parts_fills : (ps : List CallPart) → Fills (Parts d ps)
  parts_fills [] us limit low = record {
    other = us;
    same = λ k lt. refl;
    long = omega arith;
    tree = [];
    reads = (refl, refl);
  }
  parts_fills (p ∷ ps) us limit low =
      let x = seq_fills (OnePart d p) (Parts d ps) (part_framed p) (part_fills p) (parts_fills ps) us limit low in
      record {
        other = x.other;
        same = x.same;
        long = x.long;
        tree = put x.tree.0 x.tree.1;
        reads = (x.tree.0, x.tree.1, refl, x.reads.0, x.reads.1, x.reads.2);
      }

  -- a part, and then the outcome of the others
  module _ (p : CallPart) (ps : List CallPart) (ts : List TokenKind) (i : ℕ) where
    parts_as : (o : ParseResult (Option ArgumentTree × List ArgumentTree))
        → Right (At (Seq (OnePart d p) (Parts d ps)) i) Anywhere ts i o →
        RightParts ts d (p ∷ ps) i (map_result (λ (q : Option ArgumentTree × List ArgumentTree). put q.0 q.1) o)
    parts_as o x = right_as (Seq (OnePart d p) (Parts d ps)) (Parts d (p ∷ ps)) (λ q. put q.0 q.1)
        (λ us limit q j s. (q.0, q.1, refl, s.0, s.1, s.2))
        (λ us limit e j at r ends. ((r.0, r.1), r.2, (r.3, r.4, r.5), ends)) o x

    pub parts_then : (a : Option ArgumentTree) (k : ℕ) → RightPart ts d p i (found a k)
        → (o : ParseResult (List ArgumentTree)) → RightParts ts d ps k o →
        RightParts ts d (p ∷ ps) i (map_result (put a) o)
    parts_then a k x (found more j) rest =
        parts_as (found (a, more) j) (seq_then (OnePart d p) (Parts d ps) (part_framed p)
        (λ us limit n b m y ends. tt) x (found more j) rest)
    parts_then a k x (stopped j why) rest =
        parts_as (stopped j why) (seq_then (OnePart d p) (Parts d ps) (part_framed p) (λ us limit n b m y ends. tt) x
        (stopped j why) rest)

    pub parts_stop : (j : ℕ) (why : GrammarFault) → RightPart ts d p i (stopped j why)
        → RightParts ts d (p ∷ ps) i (stopped j why)
    parts_stop j why x = parts_as (stopped j why) (seq_stop (OnePart d p) (Parts d ps) (part_framed p)
        (parts_fills ps) (λ us limit n b m y ends. tt) x)

  pub parts_none : (ps : List CallPart) (ts : List TokenKind) (i : ℕ) → ps ≡ [] → i ≤ length ts
      → RightParts ts d ps i (found [] i)
  parts_none ps ts i none within = rw none (record {
    from = omega arith;
    within = within;
    reads = λ limit. (refl, refl);
    decides = λ us limit e j same low r ends. r;
  })

  -- the parts of a call are its arguments
  pub arguments_as : (s : Service) (ps : List CallPart) (ts : List TokenKind) (i : ℕ)
      (o : ParseResult (List ArgumentTree)) → RightParts ts d ps i o →
      RightArguments ts d s ps i (map_result (called s) o)
  arguments_as s ps ts i o x = right_as (Parts d ps) (Arguments d s ps) (called s)
      (λ us limit args j r. (args, refl, r))
      (λ us limit c j at r ends. (r.0, r.1, r.2, tt)) o x

  arguments_framed : (s : Service) (ps : List CallPart) → Framed (Arguments d s ps)
  arguments_framed s ps = record {
    up = λ us limit i c j x. parts_up ps us limit i x.0 j x.2;
    same = λ ts us limit lower i c j low x same. (x.0, x.1, parts_same ps ts us limit lower i x.0 j low x.2 same);
  }

  -- a call is its name and its arguments
  module _ (ts : List TokenKind) (i : ℕ) (s : Service) (is : option_and_then service_of (slice_get ts i) ≡ Some s) where
    abbrev name : (t : TokenKind) × (slice_get ts i ≡ Some t) × (service_of t ≡ Some s)
    name = token_there service_of (slice_get ts i) s is

    abbrev Passed : Rel Called
    Passed = Behind name.0 (Arguments d s (call_parts s))

    one_service : (a : Service) → Some a ≡ Some s → a ≡ s
    one_service a e = cc

    call_back : (us : List TokenKind) (limit : ℕ) (c : Called) (j : ℕ) → slice_get us i ≡ slice_get ts i
        → OneCall d us limit i c j → Passed us limit i c j
    call_back us limit c j at r =
        let one = one_service c.service (sym r.3.0 ∙ (ap (option_and_then service_of) at ∙ is)) in (
          r.2,
          (at ∙ name.1, r.3.1),
          (r.0, subst (λ z. c ≡ called z r.0) one r.1, subst (λ z. Parts d (call_parts z) us limit r.2 r.0 j) one r.4),
        )

    call_to : (us : List TokenKind) (limit : ℕ) (c : Called) (j : ℕ) → Passed us limit i c j → OneCall d us limit i c j
    call_to us limit c j r =
        let one : s ≡ c.service = sym (ap (λ (z : Called). z.service) r.2.1) in (
          r.2.0,
          subst (λ z. c ≡ called z r.2.0) one r.2.1,
          r.0,
          (ap (option_and_then service_of) r.1.0 ∙ (name.2 ∙ ap (λ z. Some z) one), r.1.1),
          subst (λ z. Parts d (call_parts z) us limit r.0 r.2.0 j) one r.2.2,
        )

    pub call_as : (o : ParseResult Called) → RightArguments ts d s (call_parts s) (i + 1) o → RightCall ts d i o
    call_as (found c j) x = right_as Passed (OneCall d) (λ c. c) (λ us limit c j r. call_to us limit c j r)
        (λ us limit c j at r ends. (c, refl, call_back us limit c j at r, tt)) (found c j)
        (behind_then name.0 (Arguments d s (call_parts s)) (token_found name.0 ts i name.1) (found c j) x)
    call_as (stopped j why) x = right_as Passed (OneCall d) (λ c. c) (λ us limit c j r. call_to us limit c j r)
        (λ us limit c j at r ends. (c, refl, call_back us limit c j at r, tt)) (stopped j why)
        (behind_then name.0 (Arguments d s (call_parts s)) (token_found name.0 ts i name.1) (stopped j why) x)

  pub call_framed : Framed (OneCall d)
  call_framed = record {
    up = λ us limit i c j x. let up = parts_up (call_parts c.service) us limit x.2 x.0 j x.4 in omega (arith, x.3.1);
    same = λ ts us limit lower i c j low x same.
        let up = parts_up (call_parts c.service) ts limit x.2 x.0 j x.4 in (
          x.0,
          x.1,
          x.2,
          (ap (option_and_then service_of) (sym (same i (omega arith) (omega (arith, x.3.1)))) ∙ x.3.0, x.3.1),
          parts_same (call_parts c.service) ts us limit lower x.2 x.0 j low x.4
              (between_rest i x.2 j ts us (omega (arith, x.3.1)) same),
        );
  }

pub parts_done : (ps : List CallPart) (n : ℕ) → length ps ≤ n → drop n ps ≡ []
parts_done [] zero h = refl
parts_done [] (suc n) h = refl
parts_done (p ∷ ps) zero h = absurd (omega arith)
parts_done (p ∷ ps) (suc n) h = parts_done ps n (omega arith)

pub no_before : (o : ParseResult (List ArgumentTree)) (P : ParseResult (List ArgumentTree) → Type 0) → P o
    → P (map_result (put_before []) o)
no_before (found more j) P x = x
no_before (stopped j why) P x = x

pub push_put : (xs : List ArgumentTree) (f : Option ArgumentTree) (o : ParseResult (List ArgumentTree))
    (P : ParseResult (List ArgumentTree) → Type 0) →
    P (map_result (put_before xs) (map_result (put f) o)) → P (map_result (put_before (xs ++ put f [])) o)
push_put xs (Some f) (found more j) P x = rw append_assoc x
push_put xs None (found more j) P x = rw append-nil x
push_put xs (Some f) (stopped j why) P x = x
push_put xs None (stopped j why) P x = x

-- what is passed by arguments that grow at their end
pub values_of-append : (xs ys : List ArgumentTree) → values_of (xs ++ ys) ≡ values_of xs ++ values_of ys
values_of-append [] ys = refl
values_of-append (value e ∷ xs) ys = ap (λ z. e ∷ z) (values_of-append xs ys)
values_of-append (out w ∷ xs) ys = values_of-append xs ys

pub out_from-append : (w : Option Word) (xs ys : List ArgumentTree) → out_from w (xs ++ ys)
    ≡ out_from (out_from w xs) ys
out_from-append w [] ys = refl
out_from-append w (value e ∷ xs) ys = out_from-append w xs ys
out_from-append w (out v ∷ xs) ys = out_from-append (Some v) xs ys

-- a call of these values and this variable
pub called_is : (s t : Service) (xs values : List ExpressionTree) (w o : Option Word) → s ≡ t → xs ≡ values → w ≡ o →
    ◌≡◌ {A = Called} (record { service = s; arguments = xs; out = w }) (record {
      service = t;
      arguments = values;
      out = o;
    })
called_is s t xs values w o a b c = ap₂ (λ (z : Service) (p : List ExpressionTree × Option Word).
    record { service = z; arguments = p.0; out = p.1 }) a (ap₂ (λ u v. (u, v)) b c)

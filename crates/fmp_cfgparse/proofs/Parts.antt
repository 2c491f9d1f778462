-- The parts of a static API, one after another.
use Rattle.std.proofs.Common.{◌≡◌, ℕ, zero, suc, ◌≤◌, List, [], ◌∷◌, ◌++◌, length, drop, Option, Some, None}
use Rattle.std.proofs.Common.{option_and_then, refl, sym, ap, subst, ◌∙◌, arith, append_assoc, append-nil}
use Rattle.fmp_base.specs.declared.names.Name.{Name}
use Rattle.fmp_lex.specs.declared.token.Symbol.TheVariants as symbol
use Rattle.fmp_lex.specs.declared.token.TokenKind.{TokenKind}
use Rattle.fmp_lex.specs.declared.token.TokenKind.TheVariants as kind
use Rattle.fmp_lex.specs.declared.reading.GrammarFault.{GrammarFault}
use Rattle.fmp_lex.specs.Reading.{At, Seq, OneToken, ParseResult, found, stopped, place, map_result, Right, Anywhere}
use Rattle.fmp_lex.specs.Reading as reading
use Rattle.fmp_lex.proofs.Sequences.{Framed, Fills, Follows, Between, between_front, between_rest, token_framed}
use Rattle.fmp_lex.proofs.Sequences.{token_fills, seq_fills, seq_then, seq_stop, right_as, item_framed}
use Rattle.fmp_lex.specs.Forms.{mark_kind, put}
use Rattle.fmp_lex.specs.declared.marks.Mark.{Mark}
use Rattle.fmp_lex.specs.declared.marks.Mark.TheVariants as mark
use Rattle.fmp_cfgparse.specs.declared.forms.ApiPart.{ApiPart}
use Rattle.fmp_cfgparse.specs.declared.forms.ApiPart.TheVariants as part
use Rattle.fmp_cfgparse.specs.declared.tree.Item.{Item}
use Rattle.fmp_cfgparse.specs.declared.tree.Item.TheVariants as item
use Rattle.fmp_cfgparse.specs.Trees.{FieldTree, value, name}
use Rattle.fmp_cfgparse.specs.Grammar.{name_of, plain_item_of, OneItem, OneValue, OnePart, Parts}
use Rattle.fmp_cfgparse.specs.Reading.{EndsValue, RightName, RightValue, RightPart, RightParts}
use Rattle.fmp_cfgparse.proofs.Items.{bar, name_fills, value_framed, value_fills}
use Rattle.fmp_lex.proofs.Repetitions.{put_before}

part_up : (p : ApiPart) (us : List TokenKind) (limit i : ℕ) (f : Option FieldTree) (j : ℕ) → OnePart p us limit i f j
    → i ≤ j
part_up (part.Mark m) us limit i None j x = omega (arith, x.1)
part_up (part.Mark m) us limit i (Some (value v)) j x = absurd x
part_up (part.Mark m) us limit i (Some (name n)) j x = absurd x
part_up part.Name us limit i None j x = absurd x
part_up part.Name us limit i (Some (value v)) j x = absurd x
part_up part.Name us limit i (Some (name n)) j x = omega (arith, x.1)
part_up part.Value us limit i None j x = absurd x
part_up part.Value us limit i (Some (value v)) j x = value_framed.up us limit i v j x
part_up part.Value us limit i (Some (name n)) j x = absurd x

part_same : (p : ApiPart) (ts us : List TokenKind) (limit lower i : ℕ) (f : Option FieldTree) (j : ℕ) → lower ≤ limit
    → OnePart p ts limit i f j → Between i j ts us → OnePart p us lower i f j
part_same (part.Mark m) ts us limit lower i None j low x same = (token_framed (mark_kind m)).same ts us limit lower i
    tt j low x same
part_same (part.Mark m) ts us limit lower i (Some (value v)) j low x same = absurd x
part_same (part.Mark m) ts us limit lower i (Some (name n)) j low x same = absurd x
part_same part.Name ts us limit lower i None j low x same = absurd x
part_same part.Name ts us limit lower i (Some (value v)) j low x same = absurd x
part_same part.Name ts us limit lower i (Some (name n)) j low x same = (item_framed name_of).same ts us limit lower i
    n j low x same
part_same part.Value ts us limit lower i None j low x same = absurd x
part_same part.Value ts us limit lower i (Some (value v)) j low x same = value_framed.same ts us limit lower i v j low
    x same
part_same part.Value ts us limit lower i (Some (name n)) j low x same = absurd x

pub part_framed : (p : ApiPart) → Framed (OnePart p)
part_framed p = record { up = part_up p; same = part_same p }

pub part_fills : (p : ApiPart) → Fills (OnePart p)
part_fills (part.Mark m) us limit low = let x = token_fills (mark_kind m) us limit low in
    record { other = x.other; same = x.same; long = x.long; tree = None; reads = x.reads }
part_fills part.Name us limit low = let x = name_fills us limit low in
    record { other = x.other; same = x.same; long = x.long; tree = Some (name x.tree); reads = x.reads }
part_fills part.Value us limit low = let x = value_fills us limit low in
    record { other = x.other; same = x.same; long = x.long; tree = Some (value x.tree); reads = x.reads }

-- the three kinds of parts
module _ (ts : List TokenKind) (i : ℕ) where
  mark_back : (m : Mark) (us : List TokenKind) (limit : ℕ) (e : Option FieldTree) (j : ℕ)
      → OnePart (part.Mark m) us limit i e j →
      (a : Unit {0}) × (e ≡ None) × OneToken (mark_kind m) us limit i a j × Unit {0}
  mark_back m us limit None j x = (tt, refl, x, tt)
  mark_back m us limit (Some (value v)) j x = absurd x
  mark_back m us limit (Some (name n)) j x = absurd x

  pub mark_as : (m : Mark) (o : ParseResult (Unit {0})) → Right (At (OneToken (mark_kind m)) i) Anywhere ts i o →
      RightPart (part.Mark m) ts i (map_result (λ (a : Unit {0}). None) o)
  mark_as m o x = right_as (OneToken (mark_kind m)) (OnePart (part.Mark m)) (λ a. None) (λ us limit a j r. r)
      (λ us limit e j at r ends. mark_back m us limit e j r) o x

  name_back : (us : List TokenKind) (limit : ℕ) (e : Option FieldTree) (j : ℕ) → OnePart part.Name us limit i e j →
      (a : Name) × (e ≡ Some (name a)) × reading.Item name_of us limit i a j × Unit {0}
  name_back us limit None j x = absurd x
  name_back us limit (Some (value v)) j x = absurd x
  name_back us limit (Some (name n)) j x = (n, refl, x, tt)

  pub name_as : (o : ParseResult Name) → RightName ts i o → RightPart part.Name ts i
      (map_result (λ (a : Name). Some (name a)) o)
  name_as o x = right_as (reading.Item name_of) (OnePart part.Name) (λ a. Some (name a)) (λ us limit a j r. r)
      (λ us limit e j at r ends. name_back us limit e j r) o x

  value_back : (us : List TokenKind) (limit : ℕ) (e : Option FieldTree) (j : ℕ) → OnePart part.Value us limit i e j
      → EndsValue us j →
      (a : List Item) × (e ≡ Some (value a)) × OneValue us limit i a j × EndsValue us j
  value_back us limit None j x ends = absurd x
  value_back us limit (Some (value v)) j x ends = (v, refl, x, ends)
  value_back us limit (Some (name n)) j x ends = absurd x

  pub value_as : (o : ParseResult (List Item)) → RightValue ts i o
      → RightPart part.Value ts i (map_result (λ (a : List Item). Some (value a)) o)
  value_as o x = right_as OneValue (OnePart part.Value) (λ a. Some (value a)) (λ us limit a j r. r)
      (λ us limit e j at r ends. value_back us limit e j r ends) o x

-- no part begins with `|`
no_mark_bar : (m : Mark) → mark_kind m ≡ bar → ⊥
no_mark_bar mark.LeftParen e = absurd (cc)
no_mark_bar mark.RightParen e = absurd (cc)
no_mark_bar mark.LeftBrace e = absurd (cc)
no_mark_bar mark.RightBrace e = absurd (cc)
no_mark_bar mark.Comma e = absurd (cc)
no_mark_bar mark.Semicolon e = absurd (cc)
no_mark_bar mark.Null e = absurd (cc)

no_item_bar : (us : List TokenKind) (limit i : ℕ) (a : Item) (j : ℕ) → OneItem us limit i a j → EndsValue us i
no_item_bar us limit i (item.Number n) j x = λ is. let e : None
    ≡ Some (item.Number n) = ap (option_and_then plain_item_of) (sym is) ∙ x.0 in absurd (cc)
no_item_bar us limit i (item.Constant n) j x = λ is. let e : None
    ≡ Some (item.Constant n) = ap (option_and_then plain_item_of) (sym is) ∙ x.0 in absurd (cc)
no_item_bar us limit i (item.Name n) j x = λ is. let e : None
    ≡ Some (item.Name n) = ap (option_and_then plain_item_of) (sym is) ∙ x.0 in absurd (cc)
no_item_bar us limit i (item.Minus n) j x = λ is. let e : Some (kind.Symbol symbol.Minus) ≡ Some bar = sym x.1.0
    ∙ is in absurd (cc)

no_part_bar : (p : ApiPart) (us : List TokenKind) (limit i : ℕ) (f : Option FieldTree) (j : ℕ)
    → OnePart p us limit i f j → EndsValue us i
no_part_bar (part.Mark m) us limit i None j x = λ is. let e : Some (mark_kind m) ≡ Some bar = sym x.0
    ∙ is in let h : mark_kind m ≡ bar = cc in no_mark_bar m h
no_part_bar (part.Mark m) us limit i (Some (value v)) j x = absurd x
no_part_bar (part.Mark m) us limit i (Some (name n)) j x = absurd x
no_part_bar part.Name us limit i None j x = absurd x
no_part_bar part.Name us limit i (Some (value v)) j x = absurd x
no_part_bar part.Name us limit i (Some (name n)) j x = λ is. let e : None
    ≡ Some n = ap (option_and_then name_of) (sym is) ∙ x.0 in absurd (cc)
no_part_bar part.Value us limit i None j x = absurd x
no_part_bar part.Value us limit i (Some (value [])) j x = absurd x
no_part_bar part.Value us limit i (Some (value (a ∷ v))) j x = no_item_bar us limit i a x.0 x.1
no_part_bar part.Value us limit i (Some (name n)) j x = absurd x

pub parts_follow : (ps : List ApiPart) → Follows EndsValue (Parts ps) EndsValue
parts_follow [] us limit k fields j x ends = subst (EndsValue us) x.1 ends
parts_follow (p ∷ ps) us limit k fields j x ends = no_part_bar p us limit k x.0 x.3 x.4

parts_up : (ps : List ApiPart) (us : List TokenKind) (limit i : ℕ) (fs : List FieldTree) (j : ℕ)
    → Parts ps us limit i fs j → i ≤ j
parts_up [] us limit i fs j x = omega (arith, x.1)
parts_up (p ∷ ps) us limit i fs j x =
    let one = part_up p us limit i x.0 x.3 x.4 in
    let rest = parts_up ps us limit x.3 x.1 j x.5 in
    omega arith

parts_same : (ps : List ApiPart) (ts us : List TokenKind) (limit lower i : ℕ) (fs : List FieldTree) (j : ℕ)
    → lower ≤ limit → Parts ps ts limit i fs j → Between i j ts us → Parts ps us lower i fs j
parts_same [] ts us limit lower i fs j low x same = x
parts_same (p ∷ ps) ts us limit lower i fs j low x same =
    let one = part_up p ts limit i x.0 x.3 x.4 in
    let rest = parts_up ps ts limit x.3 x.1 j x.5 in (
      x.0,
      x.1,
      x.2,
      x.3,
      part_same p ts us limit lower i x.0 x.3 low x.4 (between_front i x.3 j ts us rest same),
      parts_same ps ts us limit lower x.3 x.1 j low x.5 (between_rest i x.3 j ts us one same),
    )

pub parts_framed : (ps : List ApiPart) → Framed (Parts ps)
parts_framed ps = record { up = parts_up ps; same = parts_same ps }

pub parts_fills : (ps : List ApiPart) → Fills (Parts ps)
parts_fills [] us limit low = record {
  other = us;
  same = λ k lt. refl;
  long = omega arith;
  tree = [];
  reads = (refl, refl);
}
parts_fills (p ∷ ps) us limit low =
    let x = seq_fills (OnePart p) (Parts ps) (part_framed p) (part_fills p) (parts_fills ps) us limit low in
    record {
      other = x.other;
      same = x.same;
      long = x.long;
      tree = put x.tree.0 x.tree.1;
      reads = (x.tree.0, x.tree.1, refl, x.reads.0, x.reads.1, x.reads.2);
    }

-- a part, and then the outcome of the others
module _ (p : ApiPart) (ps : List ApiPart) (ts : List TokenKind) (i : ℕ) where
  parts_as : (o : ParseResult (Option FieldTree × List FieldTree))
      → Right (At (Seq (OnePart p) (Parts ps)) i) EndsValue ts i o →
      RightParts (p ∷ ps) ts i (map_result (λ (q : Option FieldTree × List FieldTree). put q.0 q.1) o)
  parts_as o x = right_as (Seq (OnePart p) (Parts ps)) (Parts (p ∷ ps)) (λ q. put q.0 q.1)
      (λ us limit q j s. (q.0, q.1, refl, s.0, s.1, s.2))
      (λ us limit e j at r ends. ((r.0, r.1), r.2, (r.3, r.4, r.5), ends)) o x

  pub parts_then : (f : Option FieldTree) (k : ℕ) → RightPart p ts i (found f k) → (o : ParseResult (List FieldTree))
      → RightParts ps ts k o →
      RightParts (p ∷ ps) ts i (map_result (put f) o)
  parts_then f k x (found more j) rest =
      parts_as (found (f, more) j) (seq_then (OnePart p) (Parts ps) (part_framed p) (parts_follow ps) x
      (found more j) rest)
  parts_then f k x (stopped j why) rest =
      parts_as (stopped j why) (seq_then (OnePart p) (Parts ps) (part_framed p) (parts_follow ps) x
      (stopped j why) rest)

  pub parts_stop : (j : ℕ) (why : GrammarFault) → RightPart p ts i (stopped j why)
      → RightParts (p ∷ ps) ts i (stopped j why)
  parts_stop j why x = parts_as (stopped j why) (seq_stop (OnePart p) (Parts ps) (part_framed p) (parts_fills ps)
      (parts_follow ps) x)

pub parts_none : (ps : List ApiPart) (ts : List TokenKind) (i : ℕ) → ps ≡ [] → i ≤ length ts
    → RightParts ps ts i (found [] i)
parts_none ps ts i none within = rw none (record {
  from = omega arith;
  within = within;
  reads = λ limit. (refl, refl);
  decides = λ us limit e j same low r ends. r;
})

pub parts_done : (ps : List ApiPart) (n : ℕ) → length ps ≤ n → drop n ps ≡ []
parts_done [] zero h = refl
parts_done [] (suc n) h = refl
parts_done (p ∷ ps) zero h = absurd (omega arith)
parts_done (p ∷ ps) (suc n) h = parts_done ps n (omega arith)

pub push_put : (xs : List FieldTree) (f : Option FieldTree) (o : ParseResult (List FieldTree))
    (P : ParseResult (List FieldTree) → Type 0) →
    P (map_result (put_before xs) (map_result (put f) o)) → P (map_result (put_before (xs ++ put f [])) o)
push_put xs (Some f) (found more j) P x = rw append_assoc x
push_put xs None (found more j) P x = rw append-nil x
push_put xs (Some f) (stopped j why) P x = x
push_put xs None (stopped j why) P x = x

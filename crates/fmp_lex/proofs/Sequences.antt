-- Readings one after another, and readings of one token.
use Rattle.std.proofs.Common.{◌≡◌, ℕ, ◌+◌, ◌<◌, ◌≤◌, List, [], ◌∷◌, ◌++◌, length, slice_get, take, Option, Some}
use Rattle.std.proofs.Common.{option_and_then, refl, sym, ap, ap₂, subst, ◌∙◌, arith, length-append}
use Rattle.std.proofs.lemmas.Option.{slice_get_within}
use Rattle.fmp_lex.specs.declared.token.TokenKind.{TokenKind}
use Rattle.fmp_lex.specs.declared.reading.GrammarFault.{GrammarFault}
use Rattle.fmp_lex.specs.declared.reading.GrammarFault.TheVariants.{Syntax, Depth}
use Rattle.fmp_lex.specs.Reading.{Rel, At, Seq, OneToken, Item, Opening, IsItem, Same, ParseResult, found, stopped}
use Rattle.fmp_lex.specs.Reading.{place, map_result, covered, Right, Anywhere}
use Rattle.fmp_lex.proofs.Lists.{get_take, same_take, take_long, same_self, one_longer, get_seam}

-- fewer tokens are the same too
pub fewer : (m n : ℕ) (ts us : List TokenKind) → m ≤ n → Same n ts us → Same m ts us
fewer m n ts us le same = λ k lt. same k (omega arith)

-- the same tokens from i up to j
abbrev pub Between : ℕ → ℕ → List TokenKind → List TokenKind → Type 0
Between i j ts us = (k : ℕ) → i ≤ k → k < j → slice_get ts k ≡ slice_get us k

pub same_between : (i j : ℕ) (ts us : List TokenKind) → Same j ts us → Between i j ts us
same_between i j ts us same = λ k from lt. same k lt

pub between_part : (i m n j : ℕ) (ts us : List TokenKind) → i ≤ m → n ≤ j → Between i j ts us → Between m n ts us
between_part i m n j ts us le more same = λ k from lt. same k (omega arith) (omega arith)

pub between_front : (i k j : ℕ) (ts us : List TokenKind) → k ≤ j → Between i j ts us → Between i k ts us
between_front i k j ts us le same = λ n from lt. same n from (omega arith)

pub between_rest : (i k j : ℕ) (ts us : List TokenKind) → i ≤ k → Between i j ts us → Between k j ts us
between_rest i k j ts us le same = λ n from lt. same n (omega arith) lt

pub at_least_covered : (j : ℕ) (why : GrammarFault) → j ≤ covered j why
at_least_covered j Syntax = omega arith
at_least_covered j Depth = omega arith

-- a reading depends on the tokens that it takes alone
pub record Framed {A : Type 0} (X : Rel A) : Type 0 where
  pub up : (us : List TokenKind) (limit i : ℕ) (a : A) (j : ℕ) → X us limit i a j → i ≤ j
  pub same : (ts us : List TokenKind) (limit lower i : ℕ) (a : A) (j : ℕ) → lower ≤ limit → X ts limit i a j
      → Between i j ts us → X us lower i a j

-- something can be read at the end of any list, by more tokens
pub record Filled {A : Type 0} (X : Rel A) (us : List TokenKind) (limit : ℕ) : Type 0 where
  pub other : List TokenKind
  pub same : Same (length us) us other
  pub long : length us ≤ length other
  pub tree : A
  pub reads : X other limit (length us) tree (length other)

abbrev pub Fills : {A : Type 0} → Rel A → Type 0
Fills X = (us : List TokenKind) (limit : ℕ) → limit ≤ length us → Filled X us limit

-- where a Y is read, an X may end
abbrev pub Follows : {B : Type 0} → (List TokenKind → ℕ → Type 0) → Rel B → (List TokenKind → ℕ → Type 0) → Type 0
Follows {B} EndX Y EndY = (us : List TokenKind) (limit k : ℕ) (b : B) (j : ℕ) → Y us limit k b j → EndY us j → EndX us k

pub pair_is : {A B : Type 0} (p : A × B) (a : A) (b : B) → p.0 ≡ a → p.1 ≡ b → p ≡ (a, b)
pair_is p a b x y = ap₂ (λ u v. (u, v)) x y

pub token_framed : (t : TokenKind) → Framed (OneToken t)
token_framed t = record {
  up = λ us limit i a j x. omega (arith, x.1);
  same = λ ts us limit lower i a j low x same. (sym (same i (omega arith) (omega (arith, x.1))) ∙ x.0, x.1);
}

pub opening_framed : (t : TokenKind) (d : ℕ) → Framed (Opening t d)
opening_framed t d = record {
  up = λ us limit i a j x. omega (arith, x.2);
  same = λ ts us limit lower i a j low x same. (
    sym (same i (omega arith) (omega (arith, x.2)))
        ∙ x.0,
    (λ lt. x.1 (omega arith)),
    x.2,
  );
}

pub token_fills : (t : TokenKind) → Fills (OneToken t)
token_fills t us limit low = record {
  other = us ++ t ∷ [];
  same = same_self us (t ∷ []);
  long = let e = one_longer us t in omega arith;
  tree = tt;
  reads = (get_seam us t [], one_longer us t);
}

pub opening_fills : (t : TokenKind) (d : ℕ) → Fills (Opening t d)
opening_fills t d us limit low = record {
  other = us ++ t ∷ [];
  same = same_self us (t ∷ []);
  long = let e = one_longer us t in omega arith;
  tree = tt;
  reads = (get_seam us t [], (λ lt. absurd (omega arith)), one_longer us t);
}

module _ {A B : Type 0} (X : Rel A) (Y : Rel B) where
  pub seq_framed : Framed X → Framed Y → Framed (Seq X Y)
  seq_framed fx fy = record {
    up = λ us limit i a j s. let le = fx.up us limit i a.0 s.0 s.1 in let more = fy.up us limit s.0 a.1 j s.2 in omega
        arith;
    same = λ ts us limit lower i a j low s same.
        let le = fx.up ts limit i a.0 s.0 s.1 in
        let more = fy.up ts limit s.0 a.1 j s.2 in (
          s.0,
          fx.same ts us limit lower i a.0 s.0 low s.1 (between_front i s.0 j ts us more same),
          fy.same ts us limit lower s.0 a.1 j low s.2 (between_rest i s.0 j ts us le same),
        );
  }

  pub seq_fills : Framed X → Fills X → Fills Y → Fills (Seq X Y)
  seq_fills fx gx gy us limit low =
      let x = gx us limit low in
      let y = gy x.other limit (let le = x.long in omega arith) in
      let long = x.long in
      let more = y.long in
      record {
        other = y.other;
        same = λ k lt. x.same k lt ∙ y.same k (omega arith);
        long = omega arith;
        tree = (x.tree, y.tree);
        reads = (
          length x.other,
          fx.same x.other y.other limit limit (length us) x.tree (length x.other) (omega arith) x.reads
              (same_between (length us) (length x.other) x.other y.other y.same),
          y.reads,
        );
      }

  -- an X, and then the outcome of a Y
  pub seq_then : {EndX EndY : List TokenKind → ℕ → Type 0} {ts : List TokenKind} {i k : ℕ} {a : A} → Framed X
      → Follows EndX Y EndY → Right (At X i) EndX ts i (found a k) →
      (o : ParseResult B) → Right (At Y k) EndY ts k o → Right (At (Seq X Y) i) EndY ts i
      (map_result (λ (b : B). (a, b)) o)
  seq_then {ts = ts} {i = i} {k = k} {a = a} fx follow x (found b j) y = let le = x.from in let more = y.from in
      record {
        from = omega arith;
        within = y.within;
        reads = λ limit. (k, x.reads limit, y.reads limit);
        decides = λ us limit p j' same low r ends.
            let one = x.decides us limit p.0 r.0 (fewer (k + 1) (j + 1) ts us (omega arith) same) (omega arith) r.1
            (follow us limit r.0 p.1 j' r.2 ends) in
            let two = y.decides us limit p.1 j' same low (subst (λ n. Y us limit n p.1 j') one.1 r.2) ends in
            (pair_is p a b one.0 two.0, two.1);
      }
  seq_then {ts = ts} {i = i} {k = k} {a = a} fx follow x (stopped j why) y = let le = x.from in let more = y.from in
      record {
        from = omega arith;
        within = y.within;
        reads =
            let c = y.reads in
            let at_least = at_least_covered j why in
            record {
              other = c.other;
              same = c.same;
              long = c.long;
              tree = (a, c.tree);
              reads = (
                k,
                fx.same ts c.other j j i a k (omega arith) (x.reads j)
                    (same_between i k ts c.other (fewer k (covered j why) ts c.other (omega arith) c.same)),
                c.reads,
              );
            };
        decides = λ us limit p j' same low r ends.
            let one = x.decides us limit p.0 r.0 (fewer (k + 1) (j + 1) ts us (omega arith) same) (omega arith) r.1
            (follow us limit r.0 p.1 j' r.2 ends) in
            y.decides us limit p.1 j' same low (subst (λ n. Y us limit n p.1 j') one.1 r.2) ends;
      }

  -- a fault in the X
  pub seq_stop : {EndX EndY : List TokenKind → ℕ → Type 0} {ts : List TokenKind} {i j : ℕ} {why : GrammarFault}
      → Framed X → Fills Y → Follows EndX Y EndY →
      Right (At X i) EndX ts i (stopped j why) → Right (At (Seq X Y) i) EndY ts i (stopped j why)
  seq_stop {ts = ts} {i = i} {j = j} {why = why} fx gy follow x = record {
    from = x.from;
    within = x.within;
    reads =
        let c = x.reads in
        let long = c.long in
        let at_least = at_least_covered j why in
        let y = gy c.other j (omega arith) in
        let more = y.long in
        record {
          other = y.other;
          same = λ k lt. c.same k lt ∙ y.same k (omega arith);
          long = omega arith;
          tree = (c.tree, y.tree);
          reads = (
            length c.other,
            fx.same c.other y.other j j i c.tree (length c.other) (omega arith) c.reads
                (same_between i (length c.other) c.other y.other y.same),
            y.reads,
          );
        };
    decides = λ us limit p j' same low r ends. x.decides us limit p.0 r.0 same low r.1
        (follow us limit r.0 p.1 j' r.2 ends);
  }

-- one relation by way of another, which the first token chooses
module _ {A B : Type 0} (X : Rel A) (Z : Rel B) (f : A → B) where
  pub right_by : {EndX EndZ : List TokenKind → ℕ → Type 0} {ts : List TokenKind} {i : ℕ} (o : ParseResult A) →
      ((us : List TokenKind) (limit : ℕ) (a : A) (j : ℕ) → X us limit i a j → Z us limit i (f a) j) →
      ((us : List TokenKind) (limit : ℕ) (e : B) (j : ℕ) → Same (place o + 1) ts us → Z us limit i e j → EndZ us j
      → (a : A) × (e ≡ f a) × X us limit i a j × EndX us j) →
      Right (At X i) EndX ts i o → Right (At Z i) EndZ ts i (map_result f o)
  right_by {ts = ts} {i = i} (found a j) to back x = record {
    from = x.from;
    within = x.within;
    reads = λ limit. to ts limit a j (x.reads limit);
    decides = λ us limit e j' same low r ends.
        let b = back us limit e j' same r ends in
        let one = x.decides us limit b.0 j' same low b.2 b.3 in
        (b.1 ∙ ap f one.0, one.1);
  }
  right_by {ts = ts} {i = i} (stopped j why) to back x = record {
    from = x.from;
    within = x.within;
    reads = let c = x.reads in record {
      other = c.other;
      same = c.same;
      long = c.long;
      tree = f c.tree;
      reads = to c.other j c.tree (length c.other) c.reads;
    };
    decides = λ us limit e j' same low r ends.
        let b = back us limit e j' same r ends in
        x.decides us limit b.0 j' same low b.2 b.3;
  }

  pub right_as : {EndX EndZ : List TokenKind → ℕ → Type 0} {ts : List TokenKind} {i : ℕ} →
      ((us : List TokenKind) (limit : ℕ) (a : A) (j : ℕ) → X us limit i a j → Z us limit i (f a) j) →
      ((us : List TokenKind) (limit : ℕ) (e : B) (j : ℕ) → slice_get us i ≡ slice_get ts i → Z us limit i e j
      → EndZ us j → (a : A) × (e ≡ f a) × X us limit i a j × EndX us j) →
      (o : ParseResult A) → Right (At X i) EndX ts i o → Right (At Z i) EndZ ts i (map_result f o)
  right_as {ts = ts} {i = i} to back (found a j) x = let le = x.from in record {
    from = x.from;
    within = x.within;
    reads = λ limit. to ts limit a j (x.reads limit);
    decides = λ us limit e j' same low r ends.
        let b = back us limit e j' (sym (same i (omega arith))) r ends in
        let one = x.decides us limit b.0 j' same low b.2 b.3 in
        (b.1 ∙ ap f one.0, one.1);
  }
  right_as {ts = ts} {i = i} to back (stopped j why) x = let le = x.from in record {
    from = x.from;
    within = x.within;
    reads = let c = x.reads in record {
      other = c.other;
      same = c.same;
      long = c.long;
      tree = f c.tree;
      reads = to c.other j c.tree (length c.other) c.reads;
    };
    decides = λ us limit e j' same low r ends.
        let b = back us limit e j' (sym (same i (omega arith))) r ends in
        x.decides us limit b.0 j' same low b.2 b.3;
  }

module _ (t : TokenKind) (ts : List TokenKind) (i : ℕ) where
  pub token_found : slice_get ts i ≡ Some t → Right (At (OneToken t) i) Anywhere ts i (found tt (i + 1))
  token_found is = let lt = slice_get_within ts i _ is in record {
    from = omega arith;
    within = omega arith;
    reads = λ limit. (is, refl);
    decides = λ us limit e j same low r any. (refl, r.1);
  }

  pub token_stopped : (slice_get ts i ≡ Some t → ⊥) → i ≤ length ts
      → Right (At (OneToken t) i) Anywhere ts i (stopped i Syntax)
  token_stopped is_not within = record {
    from = omega arith;
    within = within;
    reads =
        let front = take i ts in
        let long = take_long ts i within in
        let us = front ++ t ∷ [] in
        let size = one_longer front t in
        record {
          other = us;
          same = same_take ts (t ∷ []) i within;
          long = omega arith;
          tree = tt;
          reads = (ap (slice_get us) (sym long) ∙ get_seam front t [], omega arith);
        };
    decides = λ us limit e j same low r any. is_not (same i (omega arith) ∙ r.0);
  }

  module _ (d : ℕ) where
    pub opening_found : slice_get ts i ≡ Some t → d < 64 → Right (At (Opening t d) i) Anywhere ts i (found tt (i + 1))
    opening_found is fits = let lt = slice_get_within ts i _ is in record {
      from = omega arith;
      within = omega arith;
      reads = λ limit. (is, (λ _. fits), refl);
      decides = λ us limit e j same low r any. (refl, r.2);
    }

    pub opening_deep : slice_get ts i ≡ Some t → 64 ≤ d → Right (At (Opening t d) i) Anywhere ts i (stopped i Depth)
    opening_deep is deep = let lt = slice_get_within ts i _ is in record {
      from = omega arith;
      within = omega arith;
      reads =
          let long = take_long ts (i + 1) (omega arith) in
          let size : length (take (i + 1) ts ++ []) ≡ i + 1 = let e = length-append
          (take (i + 1) ts) [] in omega arith in
          let same = same_take ts [] (i + 1) (omega arith) in
          record {
            other = take (i + 1) ts ++ [];
            same = same;
            long = omega arith;
            tree = tt;
            reads = (sym (same i (omega arith)) ∙ is, (λ lt. absurd (omega arith)), size);
          };
      decides = λ us limit e j same low r any. let fits = r.1 (omega arith) in absurd (omega arith);
    }

    pub opening_stopped : (slice_get ts i ≡ Some t → ⊥) → i ≤ length ts
        → Right (At (Opening t d) i) Anywhere ts i (stopped i Syntax)
    opening_stopped is_not within = record {
      from = omega arith;
      within = within;
      reads =
          let front = take i ts in
          let long = take_long ts i within in
          let us = front ++ t ∷ [] in
          let size = one_longer front t in
          record {
            other = us;
            same = same_take ts (t ∷ []) i within;
            long = omega arith;
            tree = tt;
            reads = (ap (slice_get us) (sym long) ∙ get_seam front t [], (λ lt. absurd (omega arith)), omega arith);
          };
      decides = λ us limit e j same low r any. is_not (same i (omega arith) ∙ r.0);
    }

-- readings of one token that stands for something
module _ {A : Type 0} (read : TokenKind → Option A) where
  pub item_framed : Framed (Item read)
  item_framed = record {
    up = λ us limit i a j x. omega (arith, x.1);
    same = λ ts us limit lower i a j low x same. (
      ap (option_and_then read)
          (sym (same i (omega arith) (omega (arith, x.1)))) ∙ x.0,
      x.1,
    );
  }

  -- by a token that stands for something
  pub item_fills : (t : TokenKind) (a : A) → read t ≡ Some a → Fills (Item read)
  item_fills t a is us limit low = let e = one_longer us t in record {
    other = us ++ t ∷ [];
    same = same_self us (t ∷ []);
    long = omega arith;
    tree = a;
    reads = (ap (option_and_then read) (get_seam us t []) ∙ is, e);
  }

  pub item_found : (ts : List TokenKind) (i : ℕ) (a : A) → i < length ts → option_and_then read (slice_get ts i)
      ≡ Some a →
      Right (At (Item read) i) Anywhere ts i (found a (i + 1))
  item_found ts i a lt is = record {
    from = omega arith;
    within = omega arith;
    reads = λ limit. (is, refl);
    decides = λ us limit e j same low r any.
        let both : Some e ≡ Some a = sym r.0 ∙ (ap (option_and_then read) (sym (same i (omega arith))) ∙ is) in
        let one : e ≡ a = cc in
        (one, r.1);
  }

  pub item_missing : (ts : List TokenKind) (i : ℕ) → Fills (Item read)
      → ((a : A) → option_and_then read (slice_get ts i) ≡ Some a → ⊥) → i ≤ length ts →
      Right (At (Item read) i) Anywhere ts i (stopped i Syntax)
  item_missing ts i fills none within = record {
    from = omega arith;
    within = within;
    reads =
        let long = take_long ts i within in
        let x = fills (take i ts) i (omega arith) in
        let more = x.long in
        record {
          other = x.other;
          same = λ k lt. sym (get_take ts i k lt) ∙ x.same k (omega arith);
          long = omega arith;
          tree = x.tree;
          reads = subst (λ n. IsItem read x.other n x.tree (length x.other)) long x.reads;
        };
    decides = λ us limit e j same low r any. none e (ap (option_and_then read) (same i (omega arith)) ∙ r.0);
  }

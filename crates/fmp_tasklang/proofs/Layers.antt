-- Readings that open a level, and one relation by way of another with the same trees.
use Rattle.std.proofs.Common.{◌≡◌, ℕ, ◌+◌, ◌<◌, ◌≤◌, List, length, slice_get, take, Option, Some, None, option_and_then}
use Rattle.std.proofs.Common.{refl, sym, subst, ◌∙◌, arith}
use Rattle.fmp_lex.specs.declared.token.TokenKind.{TokenKind}
use Rattle.fmp_lex.specs.declared.reading.GrammarFault.TheVariants.{Syntax, Depth}
use Rattle.std.proofs.lemmas.Option.{slice_get_within}
use Rattle.fmp_lex.specs.Reading.{Rel, At, Same, Allows, ParseResult, found, stopped, Right}
use Rattle.fmp_lex.proofs.Lists.{get_take, take_long}
use Rattle.fmp_lex.proofs.Sequences.{Framed, Fills, right_as, token_stopped}
use Rattle.fmp_lex.proofs.Repetitions.{Behind, behind_stop}

-- the token that a reader's function read something of
pub token_there : {A : Type 0} (read : TokenKind → Option A) (o : Option TokenKind) (a : A) → option_and_then read o
    ≡ Some a →
    (t : TokenKind) × (o ≡ Some t) × (read t ≡ Some a)
token_there read None a e = absurd (cc)
token_there read (Some t) a e = (t, refl, e)

-- a Z is an X here
module _ {A : Type 0} (X Z : Rel A) where
  pub right_same : {EndX EndZ : List TokenKind → ℕ → Type 0} {ts : List TokenKind} {i : ℕ} →
      ((us : List TokenKind) (limit : ℕ) (a : A) (j : ℕ) → X us limit i a j → Z us limit i a j) →
      ((us : List TokenKind) (limit : ℕ) (e : A) (j : ℕ) → slice_get us i ≡ slice_get ts i → Z us limit i e j
      → EndZ us j → X us limit i e j × EndX us j) →
      (o : ParseResult A) → Right (At X i) EndX ts i o → Right (At Z i) EndZ ts i o
  right_same to back (found a j) x = right_as X Z (λ e. e) (λ us limit a j r. to us limit a j r)
      (λ us limit e j at r ends. let b = back us limit e j at r ends in (e, refl, b.0, b.1)) (found a j) x
  right_same to back (stopped j why) x = right_as X Z (λ e. e) (λ us limit a j r. to us limit a j r)
      (λ us limit e j at r ends. let b = back us limit e j at r ends in (e, refl, b.0, b.1)) (stopped j why) x

-- an X whose first token opens a level above the d that are open
abbrev pub Deeper : {A : Type 0} → ℕ → Rel A → Rel A
Deeper d X ts limit i a j = Allows limit i d × X ts limit i a j

module _ {A : Type 0} (d : ℕ) (X : Rel A) where
  pub deeper_then : {EndX : List TokenKind → ℕ → Type 0} {ts : List TokenKind} {i : ℕ} → d < 64 → (o : ParseResult A) →
      Right (At X i) EndX ts i o → Right (At (Deeper d X) i) EndX ts i o
  deeper_then fits o x = right_same X (Deeper d X) (λ us limit a j r. ((λ lt. fits), r))
      (λ us limit e j at r ends. (r.1, ends)) o x

  pub deeper_framed : Framed X → Framed (Deeper d X)
  deeper_framed fx = record {
    up = λ us limit i a j x. fx.up us limit i a j x.1;
    same = λ ts us limit lower i a j low x same. (
      (λ lt. x.0 (omega (arith, lt, low))),
      fx.same ts us limit lower i a
          j low x.1 same,
    );
  }

  pub deeper_fills : Fills X → Fills (Deeper d X)
  deeper_fills gx us limit low = let x = gx us limit low in
      record {
        other = x.other;
        same = x.same;
        long = x.long;
        tree = x.tree;
        reads = (
          (λ lt. absurd
              (omega (arith, lt, low))),
          x.reads,
        );
      }

module _ {A : Type 0} (d : ℕ) (t : TokenKind) (Y : Rel A) where
  pub deeper_missing : {EndX : List TokenKind → ℕ → Type 0} {ts : List TokenKind} {i : ℕ} → Fills Y
      → (slice_get ts i ≡ Some t → ⊥) → i ≤ length ts →
      Right (At (Deeper d (Behind t Y)) i) EndX ts i (stopped i Syntax)
  deeper_missing {EndX = EndX} {ts = ts} {i = i} gy is_not within =
      let x : Right (At (Behind t Y) i) EndX ts i (stopped i Syntax) = behind_stop t Y gy
      (token_stopped t ts i is_not within) in
      record {
        from = x.from;
        within = x.within;
        reads = let c = x.reads in record {
          other = c.other;
          same = c.same;
          long = c.long;
          tree = c.tree;
          reads = ((λ lt. absurd (omega (arith, lt))), c.reads);
        };
        decides = λ us limit e j same low r ends. x.decides us limit e j same low r.1 ends;
      }

  pub deeper_deep : {EndX : List TokenKind → ℕ → Type 0} {ts : List TokenKind} {i : ℕ} → Fills Y → slice_get ts i
      ≡ Some t → 64 ≤ d →
      Right (At (Deeper d (Behind t Y)) i) EndX ts i (stopped i Depth)
  deeper_deep {EndX = EndX} {ts = ts} {i = i} gy is deep =
      let lt : i < length ts = slice_get_within ts i t is in
      let long = take_long ts (i + 1) (omega arith) in
      let y = gy (take (i + 1) ts) i (omega arith) in
      let more = y.long in
      let same : Same (i + 1) ts y.other = λ k h. sym (get_take ts (i + 1) k h) ∙ y.same k (omega arith) in
      record {
        from = omega arith;
        within = omega arith;
        reads = record {
          other = y.other;
          same = same;
          long = omega arith;
          tree = y.tree;
          reads = (
            (λ h. absurd (omega (arith, h))),
            (
              i + 1,
              (sym (same i (omega arith)) ∙ is, refl),
              subst (λ n. Y y.other i n y.tree (length y.other)) long
                  y.reads,
            ),
          );
        };
        decides = λ us limit e j same low r ends. let fits = r.0 (omega arith) in absurd (omega arith);
      }

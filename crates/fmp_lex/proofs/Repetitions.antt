-- A token before or behind a reading, and readings of any number of one thing.
use Rattle.std.proofs.Common.{◌≡◌, ℕ, ◌≤◌, List, [], ◌∷◌, ◌++◌, length, slice_get, refl, sym, ap, subst, arith}
use Rattle.std.proofs.Common.{append_assoc}
use Rattle.fmp_lex.specs.declared.token.TokenKind.{TokenKind}
use Rattle.fmp_lex.specs.declared.reading.GrammarFault.{GrammarFault}
use Rattle.fmp_lex.specs.Reading.{Rel, At, Seq, OneToken, IsToken, ParseResult, found, stopped, map_result, Right}
use Rattle.fmp_lex.specs.Reading.{Anywhere}
use Rattle.fmp_lex.proofs.Sequences.{Framed, Fills, Follows, Between, between_front, between_rest, token_framed}
use Rattle.fmp_lex.proofs.Sequences.{token_fills, seq_framed, seq_fills, seq_then, seq_stop, right_as}
use Rattle.fmp_lex.specs.Reading.{Star}

-- a token, and then an X
abbrev pub Behind : {A : Type 0} → TokenKind → Rel A → Rel A
Behind t X ts limit i a j = (k : ℕ) × IsToken ts t i k × X ts limit k a j

-- an X, and then a token
abbrev pub Closed : {A : Type 0} → Rel A → TokenKind → Rel A
Closed X t ts limit i a j = (k : ℕ) × X ts limit i a k × IsToken ts t k j

-- an X, with the place where it begins
abbrev pub Placed : {A : Type 0} → Rel A → Rel (ℕ × A)
Placed X ts limit i p j = (p.0 ≡ i) × X ts limit i p.1 j

anywhere : {B : Type 0} (Y : Rel B) (EndY : List TokenKind → ℕ → Type 0) → Follows Anywhere Y EndY
anywhere Y EndY us limit k b j y ends = tt

module _ {A : Type 0} (t : TokenKind) (X : Rel A) where
  pub behind_framed : Framed X → Framed (Behind t X)
  behind_framed fx = let s = seq_framed (OneToken t) X (token_framed t) fx in record {
    up = λ us limit i a j x. s.up us limit i (tt, a) j x;
    same = λ ts us limit lower i a j low x same. s.same ts us limit lower i (tt, a) j low x same;
  }

  pub behind_fills : Fills X → Fills (Behind t X)
  behind_fills gx us limit low = let x = seq_fills (OneToken t) X (token_framed t) (token_fills t) gx us limit low in
      record { other = x.other; same = x.same; long = x.long; tree = x.tree.1; reads = x.reads }

  behind_as : {EndX : List TokenKind → ℕ → Type 0} {ts : List TokenKind} {i : ℕ} (o : ParseResult (Unit {0} × A)) →
      Right (At (Seq (OneToken t) X) i) EndX ts i o → Right (At (Behind t X) i) EndX ts i
      (map_result (λ (p : Unit {0} × A). p.1) o)
  behind_as o x = right_as (Seq (OneToken t) X) (Behind t X) (λ p. p.1) (λ us limit p j s. s)
      (λ us limit e j at r ends. ((tt, e), refl, r, ends)) o x

  pub behind_then : {EndX : List TokenKind → ℕ → Type 0} {ts : List TokenKind} {i k : ℕ} →
      Right (At (OneToken t) i) Anywhere ts i (found tt k) → (o : ParseResult A) → Right (At X k) EndX ts k o
      → Right (At (Behind t X) i) EndX ts i o
  behind_then {EndX = EndX} w (found a j) x =
      behind_as (found (tt, a) j) (seq_then (OneToken t) X (token_framed t) (anywhere X EndX) w (found a j) x)
  behind_then {EndX = EndX} w (stopped j why) x =
      behind_as (stopped j why) (seq_then (OneToken t) X (token_framed t) (anywhere X EndX) w (stopped j why) x)

  pub behind_stop : {EndX : List TokenKind → ℕ → Type 0} {ts : List TokenKind} {i j : ℕ} {why : GrammarFault}
      → Fills X →
      Right (At (OneToken t) i) Anywhere ts i (stopped j why) → Right (At (Behind t X) i) EndX ts i (stopped j why)
  behind_stop {EndX = EndX} {j = j} {why = why} gx w =
      behind_as (stopped j why) (seq_stop (OneToken t) X (token_framed t) gx (anywhere X EndX) w)

module _ {A : Type 0} (X : Rel A) (t : TokenKind) where
  pub closed_framed : Framed X → Framed (Closed X t)
  closed_framed fx = let s = seq_framed X (OneToken t) fx (token_framed t) in record {
    up = λ us limit i a j x. s.up us limit i (a, tt) j x;
    same = λ ts us limit lower i a j low x same. s.same ts us limit lower i (a, tt) j low x same;
  }

  pub closed_fills : Framed X → Fills X → Fills (Closed X t)
  closed_fills fx gx us limit low = let x = seq_fills X (OneToken t) fx gx (token_fills t) us limit low in
      record { other = x.other; same = x.same; long = x.long; tree = x.tree.0; reads = x.reads }

  closed_as : {ts : List TokenKind} {i : ℕ} (o : ParseResult (A × Unit {0})) →
      Right (At (Seq X (OneToken t)) i) Anywhere ts i o → Right (At (Closed X t) i) Anywhere ts i
      (map_result (λ (p : A × Unit {0}). p.0) o)
  closed_as o x = right_as (Seq X (OneToken t)) (Closed X t) (λ p. p.0) (λ us limit p j s. s)
      (λ us limit e j at r ends. ((e, tt), refl, r, ends)) o x

  pub closed_found : {EndX : List TokenKind → ℕ → Type 0} {ts : List TokenKind} {i k j : ℕ} {a : A} → Framed X
      → Follows EndX (OneToken t) Anywhere →
      Right (At X i) EndX ts i (found a k) → Right (At (OneToken t) k) Anywhere ts k (found tt j)
      → Right (At (Closed X t) i) Anywhere ts i (found a j)
  closed_found {j = j} {a = a} fx follow x w =
      closed_as (found (a, tt) j) (seq_then X (OneToken t) fx follow x (found tt j) w)

  pub closed_missing : {EndX : List TokenKind → ℕ → Type 0} {ts : List TokenKind} {i k j : ℕ} {why : GrammarFault}
      {a : A} → Framed X → Follows EndX (OneToken t) Anywhere →
      Right (At X i) EndX ts i (found a k) → Right (At (OneToken t) k) Anywhere ts k (stopped j why)
      → Right (At (Closed X t) i) Anywhere ts i (stopped j why)
  closed_missing {j = j} {why = why} fx follow x w =
      closed_as (stopped j why) (seq_then X (OneToken t) fx follow x (stopped j why) w)

  pub closed_stop : {EndX : List TokenKind → ℕ → Type 0} {ts : List TokenKind} {i j : ℕ} {why : GrammarFault}
      → Framed X → Follows EndX (OneToken t) Anywhere →
      Right (At X i) EndX ts i (stopped j why) → Right (At (Closed X t) i) Anywhere ts i (stopped j why)
  closed_stop {j = j} {why = why} fx follow x =
      closed_as (stopped j why) (seq_stop X (OneToken t) fx (token_fills t) follow x)

module _ {A : Type 0} (X : Rel A) where
  pub placed_framed : Framed X → Framed (Placed X)
  placed_framed fx = record {
    up = λ us limit i p j x. fx.up us limit i p.1 j x.1;
    same = λ ts us limit lower i p j low x same. (x.0, fx.same ts us limit lower i p.1 j low x.1 same);
  }

  pub placed_fills : Fills X → Fills (Placed X)
  placed_fills gx us limit low = let x = gx us limit low in
      record { other = x.other; same = x.same; long = x.long; tree = (length us, x.tree); reads = (refl, x.reads) }

  pub placed_right : {EndX : List TokenKind → ℕ → Type 0} {ts : List TokenKind} {i : ℕ} (o : ParseResult A) →
      Right (At X i) EndX ts i o → Right (At (Placed X) i) EndX ts i (map_result (λ (a : A). (i, a)) o)
  placed_right {i = i} o x = right_as X (Placed X) (λ a. (i, a)) (λ us limit a j r. (refl, r))
      (λ us limit e j at r ends. (e.1, ap (λ n. (n, e.1)) r.0, r.1, ends)) o x

  -- any number of X
  star_up : Framed X → (us : List TokenKind) (limit i : ℕ) (a : List A) (j : ℕ) → Star X us limit i a j → i ≤ j
  star_up fx us limit i [] j s = omega arith
  star_up fx us limit i (a ∷ more) j s =
      let one = fx.up us limit i a s.0 s.1 in
      let rest = star_up fx us limit s.0 more j s.2 in
      omega arith

  star_same : Framed X → (ts us : List TokenKind) (limit lower i : ℕ) (a : List A) (j : ℕ) → lower ≤ limit
      → Star X ts limit i a j → Between i j ts us → Star X us lower i a j
  star_same fx ts us limit lower i [] j low s same = s
  star_same fx ts us limit lower i (a ∷ more) j low s same =
      let le = fx.up ts limit i a s.0 s.1 in
      let rest = star_up fx ts limit s.0 more j s.2 in (
        s.0,
        fx.same ts us limit lower i a s.0 low s.1 (between_front i s.0 j ts us rest same),
        star_same fx ts us limit lower s.0 more j low s.2 (between_rest i s.0 j ts us le same),
      )

  pub star_framed : Framed X → Framed (Star X)
  star_framed fx = record { up = star_up fx; same = star_same fx }

  pub star_fills : Fills (Star X)
  star_fills us limit low = record { other = us; same = λ k lt. refl; long = omega arith; tree = []; reads = refl }

  no_star : (Ends : List TokenKind → ℕ → Type 0) (us : List TokenKind) (limit i : ℕ) (e : List A) (j : ℕ) →
      ((a : A) (k : ℕ) → X us limit i a k → ⊥) → Star X us limit i e j → (e ≡ []) × (j ≡ i)
  no_star Ends us limit i [] j none s = (refl, s)
  no_star Ends us limit i (a ∷ more) j none s = absurd (none a s.0 s.1)

  -- no X begins here
  pub star_none : {Ends : List TokenKind → ℕ → Type 0} (ts : List TokenKind) (i : ℕ) →
      ((us : List TokenKind) (limit : ℕ) (a : A) (k : ℕ) → slice_get us i ≡ slice_get ts i → X us limit i a k → ⊥)
      → i ≤ length ts →
      Right (At (Star X) i) Ends ts i (found [] i)
  star_none {Ends = Ends} ts i none within = record {
    from = omega arith;
    within = within;
    reads = λ limit. refl;
    decides = λ us limit e j same low r ends. no_star Ends us limit i e j
        (λ a k x. none us limit a k (sym (same i (omega arith))) x) r;
  }

  star_back : (Ends : List TokenKind → ℕ → Type 0) (us : List TokenKind) (limit i : ℕ) (e : List A) (j : ℕ)
      → (Ends us i → ⊥) →
      Star X us limit i e j → Ends us j → (p : A × List A) × (e ≡ p.0 ∷ p.1) × Seq X (Star X) us limit i p j × Ends us j
  star_back Ends us limit i [] j goes_on s ends = absurd (goes_on (subst (Ends us) s ends))
  star_back Ends us limit i (a ∷ more) j goes_on s ends = ((a, more), refl, s, ends)

  star_as : (Ends : List TokenKind → ℕ → Type 0) (ts : List TokenKind) (i : ℕ)
      → ((us : List TokenKind) → slice_get us i ≡ slice_get ts i → Ends us i → ⊥) →
      (o : ParseResult (A × List A)) → Right (At (Seq X (Star X)) i) Ends ts i o
      → Right (At (Star X) i) Ends ts i (map_result (λ (p : A × List A). p.0 ∷ p.1) o)
  star_as Ends ts i goes_on o x = right_as (Seq X (Star X)) (Star X) (λ p. p.0 ∷ p.1) (λ us limit p j s. s)
      (λ us limit e j at r ends. star_back Ends us limit i e j (goes_on us at) r ends) o x

  module _ (EndX Ends : List TokenKind → ℕ → Type 0) (ts : List TokenKind) (i : ℕ) where
    -- an X, and then the outcome of the others
    pub star_more : Framed X → Follows EndX (Star X) Ends → ((us : List TokenKind) → slice_get us i ≡ slice_get ts i
        → Ends us i → ⊥) → (a : A) (k : ℕ) →
        Right (At X i) EndX ts i (found a k) → (o : ParseResult (List A)) → Right (At (Star X) k) Ends ts k o →
        Right (At (Star X) i) Ends ts i (map_result (λ (more : List A). a ∷ more) o)
    star_more fx follow goes_on a k x (found more j) rest =
        star_as Ends ts i goes_on (found (a, more) j) (seq_then X (Star X) fx follow x (found more j) rest)
    star_more fx follow goes_on a k x (stopped j why) rest =
        star_as Ends ts i goes_on (stopped j why) (seq_then X (Star X) fx follow x (stopped j why) rest)

    -- a fault in the X
    pub star_stop : Framed X → Follows EndX (Star X) Ends → ((us : List TokenKind) → slice_get us i ≡ slice_get ts i
        → Ends us i → ⊥) → (j : ℕ) (why : GrammarFault) →
        Right (At X i) EndX ts i (stopped j why) → Right (At (Star X) i) Ends ts i (stopped j why)
    star_stop fx follow goes_on j why x = star_as Ends ts i goes_on (stopped j why)
        (seq_stop X (Star X) fx star_fills follow x)

-- a right answer about the rest, whatever it is, gives one about the whole
abbrev pub put_before : {A : Type 0} → List A → List A → List A
put_before before rest = before ++ rest

pub push_before : {A : Type 0} (xs : List A) (a : A) (o : ParseResult (List A)) (P : ParseResult (List A) → Type 0) →
    P (map_result (put_before xs) (map_result (λ (more : List A). a ∷ more) o))
    → P (map_result (put_before (xs ++ a ∷ [])) o)
push_before xs a (found more j) P x = rw append_assoc x
push_before xs a (stopped j why) P x = x

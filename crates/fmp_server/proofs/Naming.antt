-- The positions of a text at which a name stands for something, token by token.
use Rattle.std.proofs.Common.{ℕ, zero, suc, ◌≡◌, ◌<◌, ◌+◌, ◌++◌, Bool, true, false, List, [], ◌∷◌, Option, Some, None}
use Rattle.std.proofs.Common.{drop, length, slice_get, take, option_map, refl, ap, sym, ◌∙◌, add-one, arith}
use Rattle.std.specs.Prelude.{if◌then◌else◌}
use Rattle.std.proofs.lemmas.List.{append_assoc, drop_more}
use Rattle.std.proofs.lemmas.Option.{slice_get-map, get_or_from_slice_get, slice_get_within}
use Rattle.fmp_lex.specs.declared.token.Token.{Token}
use Rattle.fmp_lex.specs.declared.token.TokenKind.{TokenKind}
use Rattle.fmp_lex.specs.Reading.{kinds_of}
use Rattle.fmp_server.specs.declared.roles.NamePosition.{NamePosition}
use Rattle.fmp_server.specs.declared.roles.Role.{Role}
use Rattle.fmp_server.specs.declared.roles.RoleWalk.{RoleWalk}
use Rattle.fmp_server.specs.Roles.{named_positions, name_position, positions_at, stands_for, walked, walked_all}

some_same : {A : Type 0} (a b : A) → Some a ≡ Some b → a ≡ b
some_same a b e = cc e

-- the token at a place, and those after it
held : (ts : List Token) (i : ℕ) (t : Token) → slice_get ts i ≡ Some t → drop i ts ≡ t ∷ drop (i + 1) ts
held ts i t e =
    drop_more ts i t (slice_get_within ts i t e)
    ∙ ap (λ (x : Token). x ∷ drop (i + 1) ts) (get_or_from_slice_get ts i t t e)

of_kind : (o : Option Token) (k : TokenKind) → option_map (λ (t : Token). t.kind) o ≡ Some k
    → (t : Token) × (o ≡ Some t) × (t.kind ≡ k)
of_kind None k e = cc
of_kind (Some t) k e = (t, refl, cc)

-- the token at a place that is of this kind
found : (ts : List Token) (i : ℕ) (k : TokenKind) → slice_get (kinds_of ts) i ≡ Some k
    → (t : Token) × (slice_get ts i ≡ Some t) × (t.kind ≡ k)
found ts i k e = of_kind (slice_get ts i) k (sym (slice_get-map (λ (t : Token). t.kind) ts i) ∙ e)

here : (w : RoleWalk) (r : Role) (t : Token) (rest : List Token) (b : Bool) → stands_for w r t.kind ≡ b
    → named_positions w r (t ∷ rest)
    ≡ (if b then name_position w t ∷ [] else []) ++ named_positions (walked w t.kind) r rest
here w r t rest b e =
    ap (λ (b : Bool). (if b then name_position w t ∷ [] else []) ++ named_positions (walked w t.kind) r rest) e

-- a token at which the name does not stand for this
pub passed : (w : RoleWalk) (r : Role) (ts : List Token) (i : ℕ) (k : TokenKind) → slice_get (kinds_of ts) i ≡ Some k
    → stands_for w r k ≡ false → named_positions (walked w k) r (drop (i + 1) ts) ≡ named_positions w r (drop i ts)
passed w r ts i k e f =
    let h = found ts i k e in
    let rest = drop (i + 1) ts in
    sym (ap (λ (l : List Token). named_positions w r l) (held ts i h.0 h.1)
    ∙ here w r h.0 rest false (ap (λ (x : TokenKind). stands_for w r x) h.2 ∙ f)
    ∙ ap (λ (x : TokenKind). named_positions (walked w x) r rest) h.2)

-- a token at which it does
pub named : (w : RoleWalk) (r : Role) (ts : List Token) (i : ℕ) (k : TokenKind) (old : List NamePosition)
    → slice_get (kinds_of ts) i ≡ Some k → stands_for w r k ≡ true
    → (old ++ positions_at w (slice_get ts i)) ++ named_positions (walked w k) r (drop (i + 1) ts)
    ≡ old ++ named_positions w r (drop i ts)
named w r ts i k old e f =
    let h = found ts i k e in
    let rest = drop (i + 1) ts in
    let more = named_positions (walked w k) r rest in
    ap (λ (o : Option Token). (old ++ positions_at w o) ++ more) h.1
    ∙ append_assoc old (name_position w h.0 ∷ []) more
    ∙ ap (λ (l : List NamePosition). old ++ l)
    (sym (ap (λ (l : List Token). named_positions w r l) (held ts i h.0 h.1)
    ∙ here w r h.0 rest true (ap (λ (x : TokenKind). stands_for w r x) h.2 ∙ f)
    ∙ ap (λ (x : TokenKind). name_position w h.0 ∷ named_positions (walked w x) r rest) h.2))

-- within the list there is a kind
pub kind_held : (ts : List Token) (i : ℕ) → i < length ts
    → (slice_get (kinds_of ts) i ≡ slice_get (kinds_of ts) i)
    × ((k : TokenKind) × (slice_get (kinds_of ts) i ≡ Some k))
kind_held [] i h = absurd (omega (arith, h))
kind_held (t ∷ ts) zero h = (refl, (t.kind, refl))
kind_held (t ∷ ts) (suc i) h = let r = kind_held ts i (omega arith) in (refl, r.1)

-- a token that is the only one
pub only_kind : (ts : List Token) (k : TokenKind) → slice_get (kinds_of ts) 0 ≡ Some k → length ts ≡ 1
    → kinds_of ts ≡ k ∷ []
only_kind [] k e h = absurd (cc e)
only_kind (t ∷ []) k e h = ap (λ (x : TokenKind). x ∷ []) (some_same t.kind k e)
only_kind (t ∷ u ∷ us) k e h = absurd (omega (arith, h))

walked_suc : (w : RoleWalk) (ks : List TokenKind) (i : ℕ) (k : TokenKind) → slice_get ks i ≡ Some k
    → walked (walked_all w (take i ks)) k ≡ walked_all w (take (suc i) ks)
walked_suc w [] zero k e = absurd (cc e)
walked_suc w [] (suc i) k e = absurd (cc e)
walked_suc w (x ∷ ks) zero k e = ap (λ (y : TokenKind). walked w y) (sym (some_same x k e))
walked_suc w (x ∷ ks) (suc i) k e = walked_suc (walked w x) ks i k e

past_suc : (w : RoleWalk) (ks : List TokenKind) (i : ℕ) → slice_get ks i ≡ None
    → walked_all w (take i ks) ≡ walked_all w (take (suc i) ks)
past_suc w [] zero e = refl
past_suc w [] (suc i) e = refl
past_suc w (x ∷ ks) zero e = absurd (cc e)
past_suc w (x ∷ ks) (suc i) e = past_suc (walked w x) ks i e

at_next : (w : RoleWalk) (ks : List TokenKind) (i : ℕ) → walked_all w (take (suc i) ks) ≡ walked_all w (take (i + 1) ks)
at_next w ks i = ap (λ (n : ℕ). walked_all w (take n ks)) (sym (add-one i))

-- a walk over one token more
pub walked_more : (w : RoleWalk) (ks : List TokenKind) (i : ℕ) (k : TokenKind) → slice_get ks i ≡ Some k
    → walked (walked_all w (take i ks)) k ≡ walked_all w (take (i + 1) ks)
walked_more w ks i k e = walked_suc w ks i k e ∙ at_next w ks i

-- past the last token it stays
pub walked_past : (w : RoleWalk) (ks : List TokenKind) (i : ℕ) → slice_get ks i ≡ None
    → walked_all w (take i ks) ≡ walked_all w (take (i + 1) ks)
walked_past w ks i e = past_suc w ks i e ∙ at_next w ks i

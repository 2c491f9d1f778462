-- What is said of a word, and the answer that says it.
use Rattle.std.proofs.Common.{◌≡◌, ◌++◌, ◌-◌, ◌<◌, inl, inr, ℕ, List, [], ◌∷◌, Option, Some, None, drop, length, ap}
use Rattle.std.proofs.Common.{sym, subst, slice_get, option_map, ◌∙◌, refl, zero, suc, ◌+◌, ◌==◌, true}
use Rattle.std.proofs.Common.{IfSome, arith}
use Rattle.std.specs.Str.Lossy.{utf8_lossy}
use Rattle.std.proofs.lemmas.Bool.Decides.{Decides-eqb}
use Rattle.std.proofs.lemmas.Option.{slice_get-map, slice_get_within}
use Rattle.fmp_diagnosis.specs.Culprits.{HasTokens}
use Rattle.fmp_lex.specs.declared.position.TokenPosition.{TokenPosition}
use Rattle.fmp_lex.specs.declared.token.Token.{Token}
use Rattle.fmp_lex.specs.declared.token.TokenKind.{TokenKind}
use Rattle.fmp_lex.specs.declared.token.TokenKind.TheVariants as kind
use Rattle.fmp_lex.specs.Positions.{position_of}
use Rattle.fmp_lex.specs.Reading.{kinds_of}
use Rattle.fmp_server.specs.declared.documents.OpenTexts.{OpenTexts}
use Rattle.fmp_server.specs.declared.messages.RequestId.{RequestId}
use Rattle.fmp_server.specs.declared.positions.Position.{Position}
use Rattle.fmp_server.specs.declared.positions.TextRange.{TextRange}
use Rattle.fmp_server.specs.Documents.{bytes_of}
use Rattle.fmp_server.specs.Hovers.{BeginsWith, IsHover, IsHoverAt, IsHoverIn, IsNothing, Says, head_of}
use Rattle.fmp_server.specs.Messages.{Adds, answer, hover}
use Rattle.fmp_server.specs.Positions.{IsOffset, IsRange}
use Rattle.fmp_server.specs.Roles.{IsWordAt}

pub is_within : (ts : List Token) (offset at : ℕ) → IsWordAt ts offset at → at < length ts
is_within ts offset at w = slice_get_within ts at w.token w.token_is

some_token : (ts : List Token) (i : ℕ) → i < length ts → (t : Token) × (slice_get ts i ≡ Some t)
some_token [] i h = absurd (omega (arith, h))
some_token (t ∷ ts) zero h = (t, refl)
some_token (t ∷ ts) (suc i) h = some_token ts i (omega arith)

-- a token within the list has a position
pub has_position : (ts : List Token) (at : ℕ) → at < length ts → option_map position_of (slice_get ts at) ≡ None → ⊥
has_position ts at within none =
    let t = some_token ts at within in
    let some : Some (position_of t.0) ≡ None =
    sym (ap (λ (x : Option Token). option_map position_of x) t.1) ∙ none in
    absurd (cc some)

some_same : {A : Type 0} (a b : A) → Some a ≡ Some b → a ≡ b
some_same a b e = cc e

-- of the token at a place this was said
of_token : (ts : List Token) (at : ℕ) (t : Token) (old new : List ℕ) → slice_get ts at ≡ Some t
    → Says (slice_get (kinds_of ts) at) old new → Says (Some t.kind) old new
of_token ts at t old new e says =
    subst (λ (o : Option TokenKind). Says o old new)
    (slice_get-map (λ (x : Token). x.kind) ts at
    ∙ ap (λ (o : Option Token). option_map (λ (x : Token). x.kind) o) e)
    says

begins_by : (head : Option (List ℕ)) (said : List ℕ) → IfSome head (λ h. Adds ([] ++ h) said) → BeginsWith head said
begins_by None said adds = tt
begins_by (Some h) said adds = (drop (length h) said, adds)

begins : (k : TokenKind) (old said : List ℕ) → old ≡ [] → Says (Some k) old said → BeginsWith (head_of k) said
begins k old said none says =
    begins_by (head_of k) said (subst (λ (o : List ℕ). Says (Some k) o said) none says)

-- the answer that says it
pub says_it : (o : OpenTexts) (id : RequestId) (ts : List Token) (at : ℕ) (p : TokenPosition) (r : TextRange)
    (text old said bytes : List ℕ)
    → text ≡ bytes_of o o.file → option_map position_of (slice_get ts at) ≡ Some p
    → IsRange text (p.line - 1) p.start p.end r → old ≡ [] → Says (slice_get (kinds_of ts) at) old said
    → bytes ≡ answer id (hover r (utf8_lossy said)) → at < length ts → IsHoverAt o id ts at bytes
says_it o id ts at p r text old said bytes is position range none says answered within =
    let t = some_token ts at within in
    let same : position_of t.0 ≡ p =
    some_same _ _ (sym (ap (λ (x : Option Token). option_map position_of x) t.1) ∙ position) in
    let here : IsRange text ((position_of t.0).line - 1) (position_of t.0).start (position_of t.0).end r =
    subst (λ (q : TokenPosition). IsRange text (q.line - 1) q.start q.end r) (sym same) range in (
      t.0,
      t.1,
      inl (record {
        range = r;
        is_range = subst (λ (b : List ℕ). IsRange b (t.0.line - 1) t.0.start t.0.end r) is here;
        said = said;
        begins = begins t.0.kind old said none (of_token ts at t.0 old said t.1 says);
        answered = answered;
      }),
    )

no_head : (k : TokenKind) (said : List ℕ) → said ≡ [] → BeginsWith (head_of k) said → head_of k ≡ None
no_head (kind.Service s) said none b = absurd (cc (none, b.1))
no_head (kind.Api a) said none b = absurd (cc (none, b.1))
no_head (kind.Constant c) said none b = absurd (cc (none, b.1))
no_head _ said none b = refl

no_bytes : (xs : List ℕ) → length xs ≡ 0 → xs ≡ []
no_bytes [] e = refl
no_bytes (x ∷ xs) e = absurd (omega (arith, e))

-- or there is nothing to say
pub says_nothing : (o : OpenTexts) (id : RequestId) (ts : List Token) (at : ℕ) (old said bytes : List ℕ) (count : ℕ)
    → old ≡ [] → count ≡ length said → (count == 0) ≡ true → Says (slice_get (kinds_of ts) at) old said
    → IsNothing id bytes → at < length ts → IsHoverAt o id ts at bytes
says_nothing o id ts at old said bytes count none is no_count says nothing within =
    let empty = no_bytes said (sym is ∙ (Decides-eqb count 0).0 no_count) in
    let t = some_token ts at within in (
      t.0,
      t.1,
      inr (
        no_head t.0.kind said empty (begins t.0.kind old said none (of_token ts at t.0 old said t.1 says)),
        nothing,
      ),
    )

-- an answer on the word at a byte is one on the word at its position
pub at_position : (o : OpenTexts) (id : RequestId) (p : Position) (text : List ℕ) (ts : List Token) (offset : ℕ)
    (bytes : List ℕ)
    → text ≡ bytes_of o o.file → HasTokens text ts → IsOffset text p offset → IsHoverIn o id ts offset bytes
    → IsHover o id p bytes
at_position o id p text ts offset bytes is tokens at answered = (
  ts,
  offset,
  subst (λ (b : List ℕ). HasTokens b ts) is tokens,
  subst (λ (b : List ℕ). IsOffset b p offset) is at,
  answered,
)

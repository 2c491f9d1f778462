-- The name at a position of a text, or that there is none.
use Rattle.std.proofs.Common.{◌≡◌, inl, inr, ℕ, List, Option, Some, None, ap, sym, subst, ◌∙◌}
use Rattle.std.specs.Prelude.{MatchOption}
use Rattle.std.proofs.lemmas.Bool.{cases_order}
use Rattle.fmp_lex.specs.declared.token.Token.{Token}
use Rattle.fmp_lex.specs.Reading.{kinds_of}
use Rattle.fmp_server.specs.declared.documents.CutTexts.{CutTexts}
use Rattle.fmp_server.specs.declared.documents.OpenTexts.{OpenTexts}
use Rattle.fmp_server.specs.declared.positions.Position.{Position}
use Rattle.fmp_server.specs.declared.roles.Named.{Named}
use Rattle.fmp_server.specs.Documents.{AreCut, bytes_of, tokens_of}
use Rattle.fmp_server.specs.Navigation.{HasNoName, IsNamed}
use Rattle.fmp_server.specs.Positions.{IsOffset}
use Rattle.fmp_server.specs.Roles.{AreInOrder, HasNoWordAt, IsLastWordAt, named_at}
use Rattle.fmp_server.proofs.Order.{in_order}

-- texts that are cut are those that are open
pub cut_itself : (o : OpenTexts) (c : CutTexts) → AreCut o c → AreCut c.open c
cut_itself o c cut = subst (λ x. AreCut x c) (sym cut.open_is) cut

pub tokens_in_order : (c : CutTexts) (ts : List Token) → AreCut c.open c → ts ≡ tokens_of c c.open.file → AreInOrder ts
tokens_in_order c ts cut are = subst (λ x. AreInOrder x) (sym are) (in_order _ _ (cut.tokens_are c.open.file))

one_last : (ts : List Token) (offset a b : ℕ) → IsLastWordAt ts offset a → IsLastWordAt ts offset b → a ≡ b
one_last ts offset a b x y = elim (cases_order a b) [
  | inl same ↦ same
  | inr other ↦ elim other [ inl above ↦ absurd (x.last b above y.word) | inr below ↦ absurd (y.last a below x.word) ]
]

pub named_or_not : (c : CutTexts) (p : Position) (bytes : List ℕ) (ts : List Token) (offset at : ℕ) (r : Option Named)
    → bytes ≡ bytes_of c.open c.open.file → ts ≡ tokens_of c c.open.file → IsOffset bytes p offset
    → IsLastWordAt ts offset at → r ≡ named_at c.open.file (kinds_of ts) at
    → MatchOption r (HasNoName c p) (IsNamed c p)
named_or_not c p bytes ts offset at r b t is w e =
    by r (e ∙ ap (λ x. named_at c.open.file (kinds_of x) at) t)
  where
    offset_is : IsOffset (bytes_of c.open c.open.file) p offset
    offset_is = subst (λ x. IsOffset x p offset) b is

    word : IsLastWordAt (tokens_of c c.open.file) offset at
    word = subst (λ x. IsLastWordAt x offset at) t w

    by : (r : Option Named) → r ≡ named_at c.open.file (kinds_of (tokens_of c c.open.file)) at
        → MatchOption r (HasNoName c p) (IsNamed c p)
    by (Some n) e = record { offset = offset; at = at; offset_is = offset_is; word = word; named = sym e }
    by None e = record {
      offset = offset;
      offset_is = offset_is;
      none = λ k v. subst (λ x. named_at c.open.file (kinds_of (tokens_of c c.open.file)) x ≡ None)
          (one_last _ offset at k word v) (sym e);
    }

pub no_word : (c : CutTexts) (p : Position) (bytes : List ℕ) (ts : List Token) (offset : ℕ)
    → bytes ≡ bytes_of c.open c.open.file → ts ≡ tokens_of c c.open.file → IsOffset bytes p offset
    → HasNoWordAt ts offset → HasNoName c p
no_word c p bytes ts offset b t is none = record {
  offset = offset;
  offset_is = subst (λ x. IsOffset x p offset) b is;
  none = λ k v. absurd (none k (subst (λ x. IsLastWordAt x offset k) (sym t) v).word);
}

-- Whether a name is used, token by token.
use Rattle.std.proofs.Common.{ℕ, zero, suc, ◌≡◌, ◌+◌, ◌||◌, Bool, List, [], ◌∷◌, Some, None, drop, slice_get, refl}
use Rattle.std.proofs.Common.{ap, sym, ◌∙◌}
use Rattle.std.proofs.Common.{add-one}
use Rattle.fmp_lex.specs.declared.token.TokenKind.{TokenKind}
use Rattle.fmp_server.specs.declared.roles.Role.{Role}
use Rattle.fmp_server.specs.declared.roles.RoleWalk.{RoleWalk}
use Rattle.fmp_server.specs.Renaming.{clashes, is_used_from}
use Rattle.fmp_server.specs.Roles.{walked}

some_same : (a b : TokenKind) → Some a ≡ Some b → a ≡ b
some_same a b e = cc e

kind_at : (ks : List TokenKind) (i : ℕ) (k : TokenKind) → slice_get ks i ≡ Some k → drop i ks ≡ k ∷ drop (suc i) ks
kind_at [] zero k e = absurd (cc e)
kind_at [] (suc i) k e = absurd (cc e)
kind_at (x ∷ ks) zero k e = ap (λ (y : TokenKind). y ∷ ks) (some_same x k e)
kind_at (x ∷ ks) (suc i) k e = kind_at ks i k e

none_at : (ks : List TokenKind) (i : ℕ) → slice_get ks i ≡ None → drop (suc i) ks ≡ drop i ks
none_at [] zero e = refl
none_at [] (suc i) e = refl
none_at (x ∷ ks) zero e = absurd (cc e)
none_at (x ∷ ks) (suc i) e = none_at ks i e

after : (ks : List TokenKind) (i : ℕ) → drop (i + 1) ks ≡ drop (suc i) ks
after ks i = ap (λ (n : ℕ). drop n ks) (add-one i)

-- the next token, and those after it
pub used_more : (w u : RoleWalk) (r : Role) (ks : List TokenKind) (i : ℕ) (k : TokenKind) (here : Bool)
    → slice_get ks i ≡ Some k → u ≡ walked w k → here ≡ clashes w r k
    → (here || is_used_from u r (drop (i + 1) ks)) ≡ is_used_from w r (drop i ks)
used_more w u r ks i k here e is clash =
    ap (λ (l : List TokenKind). here || is_used_from u r l) (after ks i)
    ∙ ap (λ (v : RoleWalk). here || is_used_from v r (drop (suc i) ks)) is
    ∙ ap (λ (b : Bool). b || is_used_from (walked w k) r (drop (suc i) ks)) clash
    ∙ sym (ap (λ (l : List TokenKind). is_used_from w r l) (kind_at ks i k e))

-- no token is there
pub used_none : (w : RoleWalk) (r : Role) (ks : List TokenKind) (i : ℕ) → slice_get ks i ≡ None
    → is_used_from w r (drop (i + 1) ks) ≡ is_used_from w r (drop i ks)
used_none w r ks i e =
    ap (λ (l : List TokenKind). is_used_from w r l) (after ks i)
    ∙ ap (λ (l : List TokenKind). is_used_from w r l) (none_at ks i e)

-- The names of bodies in tokens from a place on.
use Rattle.std.proofs.Common.{◌≡◌, ◌∙◌, ℕ, suc, zero, ◌+◌, ◌<◌, List, [], ◌∷◌, ◌++◌, Bool, length, drop, refl, ap, sym}
use Rattle.std.proofs.Common.{Option, Some, None, append_assoc, arith, option_map}
use Rattle.std.specs.Prelude.{slice_get, unwrap_or}
use Rattle.fmp_base.specs.declared.names.Name.{Name}
use Rattle.fmp_frames.specs.CallPositions.{head_at}
use Rattle.fmp_lex.specs.declared.token.Token.{Token}
use Rattle.fmp_lex.specs.declared.token.TokenKind.{TokenKind}
use Rattle.fmp_lex.specs.Reading.{kinds_of}
use Rattle.fmp_looking.specs.NamedSystems.{name_at, name_here, names_after}

-- what the token at a place is
pub name_found : (h : Bool) (ts : List Token) (i : ℕ) (k : TokenKind) → Some k ≡ slice_get (kinds_of ts) i
    → name_here h k ≡ name_at h ts i
name_found h [] i k there = absurd (cc (there))
name_found h (t ∷ ts) zero k there = ap (λ (o : Option TokenKind). unwrap_or (option_map (name_here h) o) []) there
name_found h (t ∷ ts) (suc i) k there = name_found h ts i k there

pub name_missing : (h : Bool) (ts : List Token) (i : ℕ) → None ≡ slice_get (kinds_of ts) i → [] ≡ name_at h ts i
name_missing h [] i there = refl
name_missing h (t ∷ ts) zero there = absurd (cc (there))
name_missing h (t ∷ ts) (suc i) there = name_missing h ts i there

next : (i : ℕ) → suc (i + 1) ≡ suc i + 1
next i = omega arith

names_from : (h : Bool) (ts : List Token) (i : ℕ) → i < length ts
    → names_after h (drop i ts) ≡ name_at h ts i ++ names_after (head_at ts i) (drop (i + 1) ts)
names_from h [] i below = absurd (omega arith)
names_from h (t ∷ ts) zero below = refl
names_from h (t ∷ ts) (suc i) below =
    names_from h ts i (omega arith)
    ∙ ap (λ k. name_at h ts i ++ names_after (head_at ts i) (drop k (t ∷ ts))) (next i)

-- after one more token
pub names_step : (h h' : Bool) (ts : List Token) (i : ℕ) (before after total : List Name) → i < length ts
    → after ≡ before ++ name_at h ts i → h' ≡ head_at ts i
    → before ++ names_after h (drop i ts) ≡ total
    → after ++ names_after h' (drop (i + 1) ts) ≡ total
names_step h h' ts i before after total below more moved so_far =
    let rest : List Token = drop (i + 1) ts in
    ap (λ (b : Bool). after ++ names_after b rest) moved
    ∙ ap (λ (q : List Name). q ++ names_after (head_at ts i) rest) more
    ∙ append_assoc before (name_at h ts i) (names_after (head_at ts i) rest)
    ∙ ap (λ (q : List Name). before ++ q) (sym (names_from h ts i below))
    ∙ so_far

-- The place of a name in a list that begins with another.
use Rattle.std.proofs.Common.{◌≡◌, ℕ, ◌+◌, Bool, true, false, cond, List, [], ◌∷◌, Option, Some, None, refl, sym, ap}
use Rattle.std.proofs.Common.{◌∙◌}
use Rattle.std.specs.List.{position, position_from}
use Rattle.std.specs.Str.{bytes_eq}
use Rattle.std.proofs.lemmas.Iterator.Adapters.{position_from-zero}
use Rattle.fmp_base.specs.declared.names.Name.{Name}
use Rattle.fmp_base.specs.Names.{name_text}
use Rattle.fmp_tasklang.specs.Scopes.{place_of}

-- one more
abbrev pub raised : Option ℕ → Option ℕ
raised None = None
raised (Some n) = Some (n + 1)

raised-cond : (b : Bool) (i : ℕ) (o : Option ℕ) → raised (cond b (Some i) o) ≡ cond b (Some (i + 1)) (raised o)
raised-cond true i o = refl
raised-cond false i o = refl

from-raised :
    {A : Type 0} (t : A → Bool) (xs : List A) (i : ℕ) → position_from t (i + 1) xs ≡ raised (position_from t i xs)
from-raised t [] i = refl
from-raised t (x ∷ xs) i =
    ap (cond (t x) (Some (i + 1))) (from-raised t xs (i + 1))
    ∙ sym (raised-cond (t x) i (position_from t (i + 1) xs))

position-cons :
    {A : Type 0} (t : A → Bool) (x : A) (xs : List A) → position t (x ∷ xs)
    ≡ cond (t x) (Some 0) (raised (position t xs))
position-cons t x xs =
    position_from-zero t (x ∷ xs)
    ∙ ap (cond (t x) (Some 0)) (from-raised t xs 0 ∙ ap raised (sym (position_from-zero t xs)))

pub place_of-cons :
    (text : List ℕ) (n : Name) (ns : List Name) →
    place_of text (n ∷ ns) ≡ cond (bytes_eq text (name_text n)) (Some 0) (raised (place_of text ns))
place_of-cons text n ns = position-cons (λ (m : Name). bytes_eq text (name_text m)) n ns

-- The numbers of the objects of a table are given from its last row to its first.
use Rattle.std.proofs.Common.{◌≡◌, ℕ, ◌+◌, ◌<◌, Bool, true, false, cond, List, Option, Some, length, drop, get_or, map}
use Rattle.std.proofs.Common.{refl, sym, ap, ◌∙◌}
use Rattle.std.specs.List.{position_from}
use Rattle.std.specs.Str.{bytes_eq}
use Rattle.std.proofs.lemmas.Cmp.{nat_list_eq_equiv}
use Rattle.fmp_base.specs.declared.names.Name.{Name}
use Rattle.fmp_base.specs.Names.{name_text}
use Rattle.fmp_tasklang.specs.Scopes.{NameMeaning, number_or}
use Rattle.fmp_scopes.specs.Numbers.{object_or_none}
use Rattle.fmp_scopes.proofs.Loops.{position-step}

abbrev pub bears : Name → Name → Bool
bears name n = bytes_eq (name_text name) (name_text n)

-- the same bytes are the same either way round
bears-same : (a b : Name) → bears a b ≡ bears b a
bears-same a b = nat_list_eq_equiv.symm (name_text a) (name_text b)

-- an entry under a name that is a row's
pub same-entry :
    (key row name : Name) (v number : ℕ) (old : Option ℕ) → key ≡ row → v ≡ number →
    cond (bytes_eq (name_text key) (name_text name)) (Some v) old ≡ cond (bears name row) (Some number) old
same-entry key row name v number old key_is v_is =
    ap (λ b. cond b (Some v) old) (bears-same key name ∙ ap (bears name) key_is)
    ∙ ap (λ n. cond (bears name row) (Some n) old) v_is

either-number : (b : Bool) (i : ℕ) (later : Option ℕ) (others : NameMeaning) (old : Option ℕ) → object_or_none old
    ≡ number_or later others →
    object_or_none (cond b (Some (i + 1)) old) ≡ number_or (cond b (Some i) later) others
either-number true i later others old before = refl
either-number false i later others old before = before

-- a row is numbered in front of those behind it
pub number-row :
    {R : Type 0} (f : R → Name) (rows : List R) (i : ℕ) (r : R) (name : Name) (others : NameMeaning)
    (old new : Option ℕ) →
    i < length rows → r ≡ get_or rows i r → new ≡ cond (bears name (f r)) (Some (i + 1)) old →
    object_or_none old ≡ number_or (position_from (bears name) (i + 1) (drop (i + 1) (map f rows))) others →
    object_or_none new ≡ number_or (position_from (bears name) i (drop i (map f rows))) others
number-row f rows i r name others old new within is set before =
    ap object_or_none set
    ∙ either-number (bears name (f r)) i (position_from (bears name) (i + 1) (drop (i + 1) (map f rows))) others old
    before
    ∙ sym (ap (λ p. number_or p others) (position-step (bears name) f rows i r within is))

-- What a name means where the locals are `exinf` and these declared variables.
use Rattle.std.proofs.Common.{◌≡◌, ℕ, zero, suc, add-one, ◌+◌, ◌<◌, false, cond, List, [], ◌∷◌, Option, Some, None}
use Rattle.std.proofs.Common.{length, get_or, map, refl, sym, ap, ◌∙◌, arith}
use Rattle.std.specs.Prelude.{is_some, slice_get, if◌then◌else◌}
use Rattle.std.specs.Str.{bytes_eq}
use Rattle.fmp_base.specs.declared.names.Name.{Name}
use Rattle.fmp_base.specs.Names.{name_text}
use Rattle.fmp_tasklang.specs.declared.trees.Declaration.{Declaration}
use Rattle.fmp_tasklang.specs.Layout.{Local, local_of, exinf_name}
use Rattle.fmp_tasklang.specs.Scopes.{Scope, Variable, Array, place_of, object_number, is_array_or_none, local_or}
use Rattle.fmp_tasklang.specs.Scopes.{meaning_of}
use Rattle.fmp_scopes.specs.Scopes.{locals_with}
use Rattle.fmp_scopes.proofs.Positions.{raised, place_of-cons}

pub names-declared :
    (vars : List Declaration) →
    map (λ (l : Local). l.name) (map local_of vars) ≡ map (λ (d : Declaration). d.name.name) vars
names-declared [] = refl
names-declared (d ∷ ds) = ap (λ ns. d.name.name ∷ ns) (names-declared ds)

array-there :
    (vars : List Declaration) (k : ℕ) (none : Declaration) → k < length vars →
    is_array_or_none (slice_get (map local_of vars) k) ≡ is_some (get_or vars k none).length
array-there [] k none h = absurd (omega (arith, h))
array-there (d ∷ ds) zero none h = refl
array-there (d ∷ ds) (suc k) none h = array-there ds k none (omega (arith, h))

module _ (objects : List (List Name)) (vars : List Declaration) (n : Name)
    (other : bytes_eq (name_text n) (name_text exinf_name) ≡ false) where
  abbrev scope : Scope
  scope = record { objects = objects; locals = locals_with vars }

  abbrev declared : Option ℕ
  declared = place_of (name_text n) (map (λ (d : Declaration). d.name.name) vars)

  whole : place_of (name_text n) (map (λ (l : Local). l.name) (locals_with vars)) ≡ raised declared
  whole =
      place_of-cons (name_text n) exinf_name (map (λ (l : Local). l.name) (map local_of vars))
      ∙ ap (λ b. cond b (Some 0) (raised (place_of (name_text n) (map (λ (l : Local). l.name) (map local_of vars)))))
      other
      ∙ ap (λ ns. raised (place_of (name_text n) ns)) (names-declared vars)

  means : meaning_of scope n ≡ local_or (raised declared) scope (name_text n)
  means = ap (λ o. local_or o scope (name_text n)) whole

  pub declared-object : None ≡ declared → object_number (name_text n) objects ≡ meaning_of scope n
  declared-object none = sym (means ∙ ap (λ o. local_or (raised o) scope (name_text n)) (sym none))

  pub declared-local :
      (k : ℕ) (none : Declaration) → Some k ≡ declared → k < length vars →
      (if is_some (get_or vars k none).length then Array (k + 1) else Variable (k + 1)) ≡ meaning_of scope n
  declared-local k none is h =
      let next : k + 1 ≡ suc k = add-one k in
      sym (means
      ∙ ap (λ o. local_or (raised o) scope (name_text n)) (sym is)
      ∙ ap (λ m. if is_array_or_none (slice_get (locals_with vars) m) then Array (k + 1) else Variable (k + 1)) next
      ∙ ap (λ b. if b then Array (k + 1) else Variable (k + 1)) (array-there vars k none h))

-- A name is used where the set of names has one of the same bytes, and one that is not goes last.
use Rattle.std.proofs.Common.{◌≡◌, List, [], ◌∷◌, ◌++◌, map, Bool, ◌||◌, false, refl, sym, ap, ◌∙◌}
use Rattle.std.proofs.lemmas.List.{map-append}
use Rattle.std.specs.Str.{bytes_eq}
use Rattle.std.specs.List.{list_any}
use Rattle.indexmap.specs.IndexSet.{insert_key}
use Rattle.fmp_base.specs.declared.names.Name.{Name}
use Rattle.fmp_base.specs.Names.{name_text}
use Rattle.fmp_lex.specs.declared.object_name.ObjectName.{ObjectName}
use Rattle.fmp_lex.specs.ObjectNames.{name_of, same_bytes}
use Rattle.fmp_cfgparse.specs.Apis.{is_used}

pub used_any : (name : Name) (keys : List ObjectName) →
    is_used (map name_of keys) name ≡ list_any (λ k. bytes_eq (name_text name) (name_text k.name)) keys
used_any name [] = refl
used_any name (k ∷ ks) = ap (λ b. bytes_eq (name_text name) (name_text k.name) || b) (used_any name ks)

pub put_last : (key : ObjectName) (keys after : List ObjectName) → is_used (map name_of keys) key.name ≡ false → after
    ≡ insert_key same_bytes keys key →
    map name_of after ≡ map name_of keys ++ key.name ∷ []
put_last key keys after unused is =
    let none : list_any (same_bytes key) keys ≡ false = sym (used_any key.name keys) ∙ unused in
    let last : after ≡ keys ++ key ∷ [] = rw none at is in
    rw last (map-append name_of keys (key ∷ []))

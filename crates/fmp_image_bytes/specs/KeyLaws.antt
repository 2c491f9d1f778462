-- Keys are alike exactly as their bytes or their numbers are; alike keys are hashed alike, and one that is new goes
-- last.
use Rattle.std.proofs.Common.{◌≡◌, List, [], ◌∷◌, ◌++◌, true, false, refl, ap}
use Rattle.std.specs.Cmp.{IsPartialEquivalence, IsEquivalence, partial_equiv_from_equiv}
use Rattle.std.proofs.lemmas.Bool.Decides.{Decides-eqb}
use Rattle.std.proofs.lemmas.Cmp.{nat_eq_equiv, nat_list_eq_equiv}
use Rattle.std.proofs.lemmas.Slice.Eq.{bytes_eq-Decides}
use Rattle.std.specs.Hash as fed
use Rattle.indexmap.specs.IndexSet.{insert_key}
use Rattle.fmp_base.specs.Names.{name_text}
use Rattle.fmp_image_bytes.specs.Keys.{key_input, same_key, is_taken}
use Rattle.fmp_image_bytes.specs.declared.keys.Key.{Key}
use Rattle.fmp_image_bytes.specs.declared.keys.Key.TheVariants as key

like_itself : (a : Key) → same_key a a ≡ true
like_itself (key.Name a) = nat_list_eq_equiv.refl (name_text a)
like_itself (key.Interrupt i) = nat_eq_equiv.refl i

flips : (a b : Key) → same_key a b ≡ same_key b a
flips (key.Name a) (key.Name b) = nat_list_eq_equiv.symm (name_text a) (name_text b)
flips (key.Name a) (key.Interrupt j) = refl
flips (key.Interrupt i) (key.Name b) = refl
flips (key.Interrupt i) (key.Interrupt j) = nat_eq_equiv.symm i j

goes_along : (a b c : Key) → same_key a b ≡ true → same_key a c ≡ same_key b c
goes_along (key.Name a) (key.Name b) (key.Name c) e =
    nat_list_eq_equiv.congr (name_text a) (name_text b) (name_text c) e
goes_along (key.Name a) (key.Name b) (key.Interrupt k) e = refl
goes_along (key.Name a) (key.Interrupt j) c e = absurd cc
goes_along (key.Interrupt i) (key.Name b) c e = absurd cc
goes_along (key.Interrupt i) (key.Interrupt j) (key.Name c) e = refl
goes_along (key.Interrupt i) (key.Interrupt j) (key.Interrupt k) e = nat_eq_equiv.congr i j k e

pub are_alike : IsEquivalence same_key
are_alike = record { refl = like_itself; symm = flips; congr = goes_along }

pub are_partly_alike : IsPartialEquivalence same_key
are_partly_alike = partial_equiv_from_equiv are_alike

pub hashed_alike : (a b : Key) → same_key a b ≡ true → key_input a ≡ key_input b
hashed_alike (key.Name a) (key.Name b) e = ap (fed.slice fed.u8) ((bytes_eq-Decides (name_text a) (name_text b)).0 e)
hashed_alike (key.Name a) (key.Interrupt j) e = absurd cc
hashed_alike (key.Interrupt i) (key.Name b) e = absurd cc
hashed_alike (key.Interrupt i) (key.Interrupt j) e = ap fed.u8 ((Decides-eqb i j).0 e)

pub put_last : (k : Key) (keys after : List Key)
    → is_taken k keys ≡ false
    → after ≡ insert_key same_key keys k
    → after ≡ keys ++ k ∷ []
put_last k keys after free is = rw free at is

-- How printing ends, and what an exploration without findings writes.
use Rattle.std.proofs.Common.{◌≡◌, ◌∙◌, ◌⊎◌, ◌++◌, ◌||◌, ℕ, Bool, true, false, List, [], ◌∷◌, Option, None, Some}
use Rattle.std.proofs.Common.{Result, Ok, Err, ap, append_assoc, arith, inl, inr, map, refl, take}
use Rattle.std.specs.List.{list_any}
use Rattle.fmp_files.specs.Deeds.{Begins, Deed, Does, Says, removal, removed, said, wrote}
use Rattle.fmp_files.specs.Endings.{EndsPrinting, all_printed, some_printed}
use Rattle.fmp_files.specs.Prints.{Prints}
use Rattle.fmp_files.specs.PrintsLaws.{does_nothing}
use Rattle.fmp_searching.specs.Claimed.{PrintsNothing, PrintsOnly, is_print}

-- printing that ends with status 0 has printed all
pub printed_all : (bytes : List ℕ) (can_fail : Bool) (before after : Option (List Deed)) (status : ℕ)
    → EndsPrinting bytes can_fail before after status → status ≡ 0 → Prints before bytes after
printed_all bytes can_fail before after status (all_printed prints zero) is = prints
printed_all bytes can_fail before after status (some_printed can front left whole between prints says three) is =
    absurd (omega (arith, three, is))

-- a list with no image is empty
pub no_image : {A B : Type 0} (f : A → B) (xs : List A) → map f xs ≡ [] → xs ≡ []
no_image f [] e = refl
no_image f (x ∷ xs) e = cc

-- ---- deeds that print nothing

pub does_then : (a b c : Option (List Deed)) (x y : List Deed) → Does a x b → Does b y c → Does a (x ++ y) c
does_then None b c x y h k = tt
does_then (Some a) None c x y h k = absurd h
does_then (Some a) (Some b) None x y h k = absurd k
does_then (Some a) (Some b) (Some c) x y h k = k ∙ ap (λ (ds : List Deed). ds ++ y) h ∙ append_assoc a x y

none_then : (xs ys : List Deed) → list_any is_print xs ≡ false → list_any is_print ys ≡ false
    → list_any is_print (xs ++ ys) ≡ false
none_then [] ys h k = k
none_then (x ∷ xs) ys h k = go (is_print x) h (λ rest. none_then xs ys rest k)
  where
    go : (b : Bool) → (b || list_any is_print xs) ≡ false
        → (list_any is_print xs ≡ false → list_any is_print (xs ++ ys) ≡ false)
        → (b || list_any is_print (xs ++ ys)) ≡ false
    go true e later = cc
    go false e later = later e

pub quiet_none : (done : Option (List Deed)) → PrintsNothing done done
quiet_none done = record { deeds = []; none = refl; done = does_nothing done }

pub quiet_then : (a b c : Option (List Deed)) → PrintsNothing a b → PrintsNothing b c → PrintsNothing a c
quiet_then a b c h k =
    record {
      deeds = h.deeds ++ k.deeds;
      none = none_then h.deeds k.deeds h.none k.none;
      done = does_then a b c h.deeds k.deeds h.done k.done;
    }

pub quiet_written : (name bytes : List ℕ) (before after : Option (List Deed))
    → Does before (wrote name bytes ∷ []) after → PrintsNothing before after
quiet_written name bytes before after h = record { deeds = wrote name bytes ∷ []; none = refl; done = h }

pub quiet_begun : (name bytes : List ℕ) (before after : Option (List Deed)) → Begins (wrote name) bytes before after
    → PrintsNothing before after
quiet_begun name bytes before after h = elim h [
  | inl none ↦ record { deeds = []; none = refl; done = none }
  | inr some ↦ quiet_written name (take some.0 bytes) before after some.1
]

pub quiet_said : (before after : Option (List Deed)) → Says before after → PrintsNothing before after
quiet_said before after h = record { deeds = said h.0 ∷ []; none = refl; done = h.1 }

pub quiet_removed : {E : Type 0} (name : List ℕ) (result : Result Bool E) (before after : Option (List Deed))
    → Does before (removal name result) after → PrintsNothing before after
quiet_removed name (Ok true) before after h = record { deeds = removed name ∷ []; none = refl; done = h }
quiet_removed name (Ok false) before after h = record { deeds = []; none = refl; done = h }
quiet_removed name (Err e) before after h = record { deeds = []; none = refl; done = h }

-- what was printed, as far as that worked, and nothing more
pub printing_only : (text : List ℕ) (can_fail : Bool) (before after : Option (List Deed)) (status : ℕ)
    → EndsPrinting text can_fail before after status → PrintsOnly text before after
printing_only text can_fail before after status h =
    record { between = after; can_fail = can_fail; status = status; printed = h; then = quiet_none after }

-- ---- what is refused

pub quietly_refused : {P : Type 0} (before after : Option (List Deed)) → Says before after
    → PrintsNothing before after ⊎ P
quietly_refused before after h = inl (quiet_said before after h)

pub quiet_before : {P : Type 0} (a b c : Option (List Deed)) → PrintsNothing a b → PrintsNothing b c ⊎ P
    → PrintsNothing a c ⊎ P
quiet_before a b c first h = elim h [ inl quiet ↦ inl (quiet_then a b c first quiet) | inr p ↦ inr p ]

pub or_weaker : {P Q R : Type 0} → (Q → R) → P ⊎ Q → P ⊎ R
or_weaker f h = elim h [ inl p ↦ inl p | inr q ↦ inr (f q) ]

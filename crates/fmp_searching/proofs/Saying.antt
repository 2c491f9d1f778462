-- What a watcher says while a search goes on.
use Rattle.std.proofs.Common.{◌≡◌, ◌∙◌, ◌++◌, ◌||◌, ◌+◌, ◌≤◌, ℕ, Bool, true, false, List, [], ◌∷◌, Option, None, Some}
use Rattle.std.proofs.Common.{ap, append-nil, append_assoc, drop, length, refl, subst, sym, take}
use Rattle.std.specs.List.{AllByRecursion, list_any}
use Rattle.std.proofs.lemmas.List.{take-append-drop}
use Rattle.fmp_files.specs.Deeds.{Deed, Does, Says, printed, removed, said, wrote}
use Rattle.fmp_searching.specs.Deeds.{HasSaid, IsSaying, SaysOnly, done_since, first_done, is_no_saying}

take_own : (xs ys : List Deed) → take (length xs) (xs ++ ys) ≡ xs
take_own [] ys = refl
take_own (x ∷ xs) ys = ap (λ (ds : List Deed). x ∷ ds) (take_own xs ys)

drop_own : (xs ys : List Deed) → drop (length xs) (xs ++ ys) ≡ ys
drop_own [] ys = refl
drop_own (x ∷ xs) ys = drop_own xs ys

any_said : (ds : List Deed) (text : List ℕ) → list_any is_no_saying ds ≡ false
    → list_any is_no_saying (ds ++ said text ∷ []) ≡ false
any_said [] text h = refl
any_said (wrote name bytes ∷ ds) text h = absurd (cc)
any_said (removed name ∷ ds) text h = absurd (cc)
any_said (printed bytes ∷ ds) text h = absurd (cc)
any_said (said t ∷ ds) text h = any_said ds text h

each_said : (ds : List Deed) → list_any is_no_saying ds ≡ false → AllByRecursion IsSaying ds
each_said [] h = tt
each_said (wrote name bytes ∷ ds) h = absurd (cc)
each_said (removed name ∷ ds) h = absurd (cc)
each_said (printed bytes ∷ ds) h = absurd (cc)
each_said (said t ∷ ds) h = (tt, each_said ds h)

some_inside : (x y : List Deed) → Some x ≡ Some y → x ≡ y
some_inside x y h = cc

-- the deeds of one that has said texts
parts_of : (b a : List Deed) → take (length b) a ≡ b → a ≡ b ++ drop (length b) a
parts_of b a h =
    sym (take-append-drop (length b) a) ∙ ap (λ (ds : List Deed). ds ++ drop (length b) a) h

-- ---- the fact that a type keeps

pub said_none : (before after : Option (List Deed)) → after ≡ before → HasSaid before after
said_none before after same = subst (λ (x : Option (List Deed)). HasSaid before x) (sym same) (go before) where
  go : (d : Option (List Deed)) → HasSaid d d
  go None = record { first = refl; texts = refl }
  go (Some b) =
      let nil : b ++ [] ≡ b = append-nil b in
      record {
        first =
            ap (λ (ds : List Deed). Some (take (length b) ds)) (sym nil)
            ∙ ap (λ (ds : List Deed). Some ds) (take_own b []);
        texts =
            ap (λ (ds : List Deed). list_any is_no_saying (drop (length b) ds)) (sym nil)
            ∙ ap (λ (ds : List Deed). list_any is_no_saying ds) (drop_own b []);
      }

pub said_more : (a b c : Option (List Deed)) → HasSaid a b → Says b c → HasSaid a c
said_more None b c h s = record { first = refl; texts = refl }
said_more (Some x) None c h s = absurd (cc (h.first))
said_more (Some x) (Some y) None h s = absurd s.1
said_more (Some x) (Some y) (Some z) h s =
    let rest : List Deed = drop (length x) y in
    let parts : y ≡ x ++ rest = parts_of x y (some_inside _ _ h.first) in
    let all : z ≡ x ++ (rest ++ said s.0 ∷ []) =
    s.1 ∙ ap (λ (ds : List Deed). ds ++ said s.0 ∷ []) parts ∙ append_assoc x rest (said s.0 ∷ []) in
    record {
      first =
          ap (λ (ds : List Deed). Some (take (length x) ds)) all
          ∙ ap (λ (ds : List Deed). Some ds) (take_own x (rest ++ said s.0 ∷ []));
      texts =
          ap (λ (ds : List Deed). list_any is_no_saying (drop (length x) ds)) all
          ∙ ap (λ (ds : List Deed). list_any is_no_saying ds) (drop_own x (rest ++ said s.0 ∷ []))
          ∙ any_said rest s.0 h.texts;
    }

pub says_only : (a b : Option (List Deed)) → HasSaid a b → SaysOnly a b
says_only None b h = record { deeds = []; each = tt; done = tt }
says_only (Some x) None h = absurd (cc (h.first))
says_only (Some x) (Some y) h =
    record {
      deeds = drop (length x) y;
      each = each_said (drop (length x) y) h.texts;
      done = parts_of x y (some_inside _ _ h.first);
    }

-- Pieces that are printed one after the other are a text that is printed.
use Rattle.std.proofs.Common.{ℕ, ◌≡◌, refl, sym, ap, ◌∙◌, subst, ◌++◌, append_assoc, append-nil, Bool, IsTrue, inl, inr}
use Rattle.std.proofs.Common.{List, [], ◌∷◌, Option, None, Some, drop, map, take}
use Rattle.std.proofs.lemmas.List.{map-append, take-append-drop}
use Rattle.std.proofs.lemmas.List.Folds.{concat-append}
use Rattle.std.specs.List.{concat}
use Rattle.fmp_files.specs.Deeds.{Begins, Deed, Does, printed}
use Rattle.fmp_files.specs.Prints.{IsEmpty, Prints, PrintsPieces}

pub does_nothing : (done : Option (List Deed)) → Does done [] done
does_nothing None = tt
does_nothing (Some deeds) = sym (append-nil deeds)

does_then : (a b c : Option (List Deed)) (x y : List Deed) → Does a x b → Does b y c → Does a (x ++ y) c
does_then None b c x y h k = tt
does_then (Some a) None c x y h k = absurd h
does_then (Some a) (Some b) None x y h k = absurd k
does_then (Some a) (Some b) (Some c) x y h k = k ∙ ap (λ (ds : List Deed). ds ++ y) h ∙ append_assoc a x y

pub prints_nothing : (done : Option (List Deed)) → Prints done [] done
prints_nothing done = record { pieces = []; bytes_are = refl; done = does_nothing done }

-- one piece
pub prints_one : (before after : Option (List Deed)) (piece : List ℕ) → Does before (printed piece ∷ []) after
    → Prints before piece after
prints_one before after piece h = record { pieces = piece ∷ []; bytes_are = sym (append-nil piece); done = h }

-- what is printed after what was printed
pub prints_more : (a b c : Option (List Deed)) (x y : List ℕ) → Prints a x b → Prints b y c → Prints a (x ++ y) c
prints_more a b c x y h k =
    record {
      pieces = h.pieces ++ k.pieces;
      bytes_are =
          ap (λ (text : List ℕ). text ++ y) h.bytes_are ∙ ap (λ (text : List ℕ). concat h.pieces ++ text) k.bytes_are
          ∙ sym (concat-append h.pieces k.pieces);
      done =
          subst (λ (deeds : List Deed). Does a deeds c) (sym (map-append printed h.pieces k.pieces))
          (does_then a b c (map printed h.pieces) (map printed k.pieces) h.done k.done);
    }

-- the same, where nothing is done for an empty text
pub pieces_nothing : (done : Option (List Deed)) → PrintsPieces done [] done
pieces_nothing done = record { prints = prints_nothing done; nothing = λ _. does_nothing done }

nothing_twice : (a b c : Option (List Deed)) (x y : List ℕ) → (IsEmpty x → Does a [] b) → (IsEmpty y → Does b [] c)
    → IsEmpty (x ++ y) → Does a [] c
nothing_twice a b c [] y h k empty = does_then a b c [] [] (h tt) (k empty)
nothing_twice a b c (byte ∷ x) y h k empty = absurd empty

pub pieces_more : (a b c : Option (List Deed)) (x y : List ℕ) → PrintsPieces a x b → PrintsPieces b y c
    → PrintsPieces a (x ++ y) c
pieces_more a b c x y h k =
    record { prints = prints_more a b c x y h.prints k.prints; nothing = nothing_twice a b c x y h.nothing k.nothing }

-- a piece of which a front was printed, or nothing
pub record PrintsFront (before : Option (List Deed)) (bytes : List ℕ) (after : Option (List Deed)) : Type 0 where
  pub front : List ℕ
  pub left : List ℕ
  pub bytes_are : bytes ≡ front ++ left
  pub printed_front : Prints before front after

pub prints_front : (before after : Option (List Deed)) (bytes : List ℕ) → Begins printed bytes before after
    → PrintsFront before bytes after
prints_front before after bytes (inl h) =
    let none : Prints before [] after = record { pieces = []; bytes_are = refl; done = h } in
    record { front = []; left = bytes; bytes_are = refl; printed_front = none }
prints_front before after bytes (inr h) =
    record {
      front = take h.0 bytes;
      left = drop h.0 bytes;
      bytes_are = sym (take-append-drop h.0 bytes);
      printed_front = prints_one before after (take h.0 bytes) h.1;
    }

-- a test that gives the same gives true of both
pub still_fails : {can_fail can_fail_too : Bool} → can_fail_too ≡ can_fail → IsTrue can_fail_too → IsTrue can_fail
still_fails same h = subst IsTrue same h

-- Texts that are appended one after another.
use Rattle.std.proofs.Common.{◌≡◌, ℕ, ◌+◌, List, [], ◌∷◌, ◌++◌, drop, ap, sym, ◌∙◌, append_assoc}
use Rattle.std.proofs.lemmas.List.{append-nil}
use Rattle.std.specs.Prelude.{flat_map, map}
use Rattle.fmp_slices.specs.Traces.{texts_from}

-- what follows a text that was appended follows what was there before, with the text between
pub onto : (old new text rest : List ℕ) → new ≡ old ++ text → new ++ rest ≡ old ++ (text ++ rest)
onto old new text rest wrote = ap (λ (xs : List ℕ). xs ++ rest) wrote ∙ append_assoc old text rest

-- the next text is that of the first thing left
pub texts_next : {A : Type 0} (text : ℕ → A → List ℕ) (all old new : List ℕ) (xs : List A) (n : ℕ) (x : A)
    → drop n xs ≡ x ∷ drop (n + 1) xs → new ≡ old ++ text n x → old ++ texts_from text n (drop n xs) ≡ all
    → new ++ texts_from text (n + 1) (drop (n + 1) xs) ≡ all
texts_next {A} text all old new xs n x left wrote before =
    onto old new (text n x) (texts_from text (n + 1) (drop (n + 1) xs)) wrote
    ∙ ap (λ (rest : List A). old ++ texts_from text n rest) (sym left)
    ∙ before

-- all is written where nothing is left
pub texts_end : {A : Type 0} (text : ℕ → A → List ℕ) (all old : List ℕ) (rest : List A) (n : ℕ)
    → rest ≡ [] → old ++ texts_from text n rest ≡ all → old ≡ all
texts_end {A} text all old rest n none before =
    sym (append-nil old) ∙ ap (λ (left : List A). old ++ texts_from text n left) (sym none) ∙ before

-- the same of texts without numbers
pub pieces_next : {A : Type 0} (text : A → List ℕ) (all old new : List ℕ) (xs : List A) (n : ℕ) (x : A)
    → drop n xs ≡ x ∷ drop (n + 1) xs → new ≡ old ++ text x → old ++ flat_map text (drop n xs) ≡ all
    → new ++ flat_map text (drop (n + 1) xs) ≡ all
pieces_next {A} text all old new xs n x left wrote before =
    onto old new (text x) (flat_map text (drop (n + 1) xs)) wrote
    ∙ ap (λ (rest : List A). old ++ flat_map text rest) (sym left)
    ∙ before

pub pieces_end : {A : Type 0} (text : A → List ℕ) (all old : List ℕ) (rest : List A)
    → rest ≡ [] → old ++ flat_map text rest ≡ all → old ≡ all
pieces_end {A} text all old rest none before =
    sym (append-nil old) ∙ ap (λ (left : List A). old ++ flat_map text left) (sym none) ∙ before

-- and of things that are one each
pub items_next : {A B : Type 0} (f : A → B) (all old new : List B) (xs : List A) (n : ℕ) (x : A)
    → drop n xs ≡ x ∷ drop (n + 1) xs → new ≡ old ++ f x ∷ [] → old ++ map f (drop n xs) ≡ all
    → new ++ map f (drop (n + 1) xs) ≡ all
items_next {A} {B} f all old new xs n x left wrote before =
    ap (λ (ys : List B). ys ++ map f (drop (n + 1) xs)) wrote
    ∙ append_assoc old (f x ∷ []) (map f (drop (n + 1) xs))
    ∙ ap (λ (rest : List A). old ++ map f rest) (sym left)
    ∙ before

pub items_end : {A B : Type 0} (f : A → B) (all old : List B) (rest : List A) → rest ≡ [] → old ++ map f rest ≡ all
    → old ≡ all
items_end {A} {B} f all old rest none before =
    sym (append-nil old) ∙ ap (λ (left : List A). old ++ map f left) (sym none) ∙ before

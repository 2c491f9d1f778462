-- Files that are written and removed, and how a search ends.
use Rattle.std.proofs.Common.{◌≡◌, ◌∙◌, ◌++◌, ◌⊎◌, ℕ, suc, zero, ◌+◌, ◌<◌, ◌≤◌, Bool, true, false, cond, List, [], ◌∷◌}
use Rattle.std.proofs.Common.{IfSome, Option, None, Some, Result, Ok, Err, slice_get, ap, subst, sym, refl, inl, inr}
use Rattle.std.proofs.Common.{arith, length, map, min, nat_eq, take}
use Rattle.std.specs.List.{AllByRecursion, range_with_len}
use Rattle.std.proofs.lemmas.List.{map-append}
use Rattle.fmp_files.specs.Deeds.{Deed, Does, Says, removal, removed, said, wrote}
use Rattle.fmp_files.specs.Endings.{EndsPrinting, all_printed, some_printed}
use Rattle.fmp_files.specs.PrintsLaws.{does_nothing}
use Rattle.fmp_searching.specs.Files.{IsApart, IsRemoval, RemovesSteps, files_written, is_refusal, steps_names}
use Rattle.fmp_searching.specs.Sources.{steps_name}
use Rattle.fmp_searching.specs.declared.sources.Exploring.{Exploring}
use Rattle.fmp_searching.proofs.Printing.{does_then}

next : (i : ℕ) → suc (i + 1) ≡ suc i + 1
next i = omega arith

-- ---- statuses

-- printing ends with status 0 or 3
pub printing_status : (bytes : List ℕ) (can_fail : Bool) (before after : Option (List Deed)) (status : ℕ)
    → EndsPrinting bytes can_fail before after status → (status ≡ 0) ⊎ (status ≡ 3)
printing_status bytes can_fail before after status (all_printed prints none) = inl none
printing_status bytes can_fail before after status (some_printed can front left whole between prints says three) =
    inr three

-- status 2 after a file was written is the status of what else was done
pub two_after : (written status result : ℕ) → (written ≡ 0) ⊎ (written ≡ 3)
    → result ≡ cond (nat_eq written 0) status written → result ≡ 2 → status ≡ 2
two_after written status result one is two = elim one [
  | inl none ↦ sym (is ∙ ap (λ (w : ℕ). cond (nat_eq w 0) status w) none) ∙ two
  | inr three ↦
      let same : result ≡ 3 = is ∙ ap (λ (w : ℕ). cond (nat_eq w 0) status w) three in
      absurd (omega (arith, same, two))
]

-- a status that is no refusal is told after a file was written
pub told_after : (written status result : ℕ) → (written ≡ 0) ⊎ (written ≡ 3)
    → result ≡ cond (nat_eq written 0) status written → is_refusal result ≡ false → (written ≡ 0) × (result ≡ status)
told_after written status result one is told = elim one [
  | inl none ↦ (none, is ∙ ap (λ (w : ℕ). cond (nat_eq w 0) status w) none)
  | inr three ↦
      let same : result ≡ 3 = is ∙ ap (λ (w : ℕ). cond (nat_eq w 0) status w) three in
      let refused : true ≡ false = subst (λ (r : ℕ). is_refusal r ≡ false) same told in
      absurd (cc)
]

-- ---- lists

pub all_push : {X : Type 0} (P : X → Type 0) (xs : List X) (x : X) → AllByRecursion P xs → P x
    → AllByRecursion P (xs ++ x ∷ [])
all_push P [] x h p = (p, tt)
all_push P (y ∷ ys) x h p = (h.0, all_push P ys x h.1 p)

pub all_then : {X : Type 0} (P : X → Type 0) (xs ys : List X) → AllByRecursion P xs → AllByRecursion P ys
    → AllByRecursion P (xs ++ ys)
all_then P [] ys h k = k
all_then P (x ∷ xs) ys h k = (h.0, all_then P xs ys h.1 k)

pub range_more : (a n : ℕ) → range_with_len a (n + 1) ≡ range_with_len a n ++ (a + n) ∷ []
range_more a zero = ap (λ (k : ℕ). k ∷ []) (omega arith)
range_more a (suc n) =
    ap (λ (m : ℕ). range_with_len a m) (sym (next n))
    ∙ ap (λ (ks : List ℕ). a ∷ ks) (range_more (a + 1) n)
    ∙ ap (λ (k : ℕ). a ∷ (range_with_len (a + 1) n ++ k ∷ [])) (omega arith)

pub names_more : (out : List ℕ) (n : ℕ) → steps_names out (n + 1) ≡ steps_names out n ++ steps_name out (n + 1) ∷ []
names_more out n =
    ap (λ (ks : List ℕ). map (λ number. steps_name out number) ks) (range_more 1 n)
    ∙ map-append (λ number. steps_name out number) (range_with_len 1 n) ((1 + n) ∷ [])
    ∙ ap (λ (k : ℕ). steps_names out n ++ steps_name out k ∷ []) (omega arith)

some_weaker : {A : Type 0} (P Q : A → Type 0) (o : Option A) → ((x : A) → P x → Q x) → IfSome o P → IfSome o Q
some_weaker P Q None w h = h
some_weaker P Q (Some x) w h = w x h

-- of two lists the first items, and one more of each
written_more : {A B : Type 0} (f : A → List ℕ) (h : B → List ℕ) (Q : List Deed → Type 0) (names : List A)
    (texts : List B) (i : ℕ) → i < length names → i < length texts
    → IfSome (slice_get names i) (λ x. IfSome (slice_get texts i)
    (λ y. Q (files_written (take i (map f names)) (take i (map h texts)) ++ wrote (f x) (h y) ∷ [])))
    → Q (files_written (take (i + 1) (map f names)) (take (i + 1) (map h texts)))
written_more f h Q [] texts i l k q = absurd (omega arith)
written_more f h Q (n ∷ ns) [] i l k q = absurd (omega arith)
written_more f h Q (n ∷ ns) (t ∷ ts) zero l k q = q
written_more f h Q (n ∷ ns) (t ∷ ts) (suc i) l k q =
    subst (λ (m : ℕ). Q (files_written (take m (map f (n ∷ ns))) (take m (map h (t ∷ ts))))) (next i)
    (written_more f h (λ (ds : List Deed). Q (wrote (f n) (h t) ∷ ds)) ns ts i (omega arith) (omega arith) q)

pub written_step : {A B : Type 0} (f : A → List ℕ) (h : B → List ℕ) (names : List A) (texts : List B) (i : ℕ)
    (a b c : Option (List Deed)) → i < length names → i < length texts
    → Does a (files_written (take i (map f names)) (take i (map h texts))) b
    → IfSome (slice_get names i) (λ x. IfSome (slice_get texts i) (λ y. Does b (wrote (f x) (h y) ∷ []) c))
    → Does a (files_written (take (i + 1) (map f names)) (take (i + 1) (map h texts))) c
written_step f h names texts i a b c l k p q =
    written_more f h (λ (ds : List Deed). Does a ds c) names texts i l k
    (some_weaker _ _ (slice_get names i)
    (λ x r. some_weaker _ _ (slice_get texts i)
    (λ y s. does_then a b c (files_written (take i (map f names)) (take i (map h texts))) (wrote (f x) (h y) ∷ []) p s)
    r) q)

pub written_all : {A B : Type 0} (f : A → List ℕ) (h : B → List ℕ) (names : List A) (texts : List B) (i : ℕ)
    → min (length names) (length texts) ≤ i
    → files_written (take i (map f names)) (take i (map h texts)) ≡ files_written (map f names) (map h texts)
written_all f h [] texts zero l = refl
written_all f h [] texts (suc i) l = refl
written_all f h (n ∷ ns) [] zero l = refl
written_all f h (n ∷ ns) [] (suc i) l = refl
written_all f h (n ∷ ns) (t ∷ ts) zero l = absurd (omega arith)
written_all f h (n ∷ ns) (t ∷ ts) (suc i) l =
    ap (λ (ds : List Deed). wrote (f n) (h t) ∷ ds) (written_all f h ns ts i (omega arith))

-- the first items of a list, and one more
pub all_more : {A X : Type 0} (P : X → Type 0) (f : A → X) (xs : List A) (i : ℕ) → i < length xs
    → AllByRecursion P (take i (map f xs)) → IfSome (slice_get xs i) (λ x. P (f x))
    → AllByRecursion P (take (i + 1) (map f xs))
all_more P f [] i l h p = absurd (omega arith)
all_more P f (y ∷ ys) zero l h p = (p, tt)
all_more P f (y ∷ ys) (suc i) l h p =
    subst (λ (m : ℕ). AllByRecursion P (take m (map f (y ∷ ys)))) (next i)
    (h.0, all_more P f ys i (omega arith) h.1 p)

pub all_of : {A X : Type 0} (P : X → Type 0) (f : A → X) (xs : List A) (i : ℕ) → length xs ≤ i
    → AllByRecursion P (take i (map f xs)) → AllByRecursion P (map f xs)
all_of P f [] i l h = tt
all_of P f (y ∷ ys) zero l h = absurd (omega arith)
all_of P f (y ∷ ys) (suc i) l h = (h.0, all_of P f ys i (omega arith) h.1)

-- ---- removals

pub removes_none : (e : Exploring) (out : List ℕ) (count : ℕ) (done : Option (List Deed))
    → RemovesSteps e out count done done
removes_none e out count done = record { deeds = []; each = tt; done = does_nothing done }

pub removes_then : (e : Exploring) (out : List ℕ) (count : ℕ) (a b c : Option (List Deed))
    → RemovesSteps e out count a b → RemovesSteps e out count b c → RemovesSteps e out count a c
removes_then e out count a b c h k =
    record {
      deeds = h.deeds ++ k.deeds;
      each = all_then (IsRemoval e out count) h.deeds k.deeds h.each k.each;
      done = does_then a b c h.deeds k.deeds h.done k.done;
    }

pub removes_said : (e : Exploring) (out : List ℕ) (count : ℕ) (before after : Option (List Deed)) → Says before after
    → RemovesSteps e out count before after
removes_said e out count before after h = record { deeds = said h.0 ∷ []; each = (tt, tt); done = h.1 }

pub removes_removed : {E : Type 0} (e : Exploring) (out name : List ℕ) (count number : ℕ) (result : Result Bool E)
    (before after : Option (List Deed)) → count < number → name ≡ steps_name out number → IsApart e name
    → Does before (removal name result) after → RemovesSteps e out count before after
removes_removed e out name count number (Ok true) before after later is apart h =
    record { deeds = removed name ∷ []; each = (((number, (later, is)), apart), tt); done = h }
removes_removed e out name count number (Ok false) before after later is apart h =
    record { deeds = []; each = tt; done = h }
removes_removed e out name count number (Err x) before after later is apart h =
    record { deeds = []; each = tt; done = h }

-- Names and interrupt numbers that are distinct are new as keys of an image.
use Rattle.std.proofs.Common.{◌≡◌, ℕ, nat_eq, true, false, List, [], ◌∷◌, ◌++◌, map, refl, sym, ap, ◌∙◌}
use Rattle.std.proofs.lemmas.Bool.Decides.{Decides-like, Decides-eqb, same_from_decides}
use Rattle.std.proofs.lemmas.List.Folds.{list_any-append}
use Rattle.std.specs.List.{AllByRecursion, IsDistinct}
use Rattle.fmp_base.specs.declared.names.Name.{Name}
use Rattle.fmp_base.specs.Systems.{SystemTables}
use Rattle.fmp_cfgparse.specs.Tables.{same_name, object_names, interrupt_number, task_name, semaphore_name, flag_name}
use Rattle.fmp_cfgparse.specs.Tables.{data_queue_name, mailbox_name, message_name, shared_word_name, spin_lock_name}
use Rattle.fmp_cfgparse.specs.Tables.{cyclic_name, IsConfiguration}
use Rattle.fmp_cfgparse.proofs.OneMore.{name_flip}
use Rattle.fmp_image_bytes.specs.declared.keys.Key.{Key}
use Rattle.fmp_image_bytes.specs.declared.keys.Key.TheVariants as key
use Rattle.fmp_image_bytes.specs.Images.{keys_of}
use Rattle.fmp_image_bytes.specs.Keys.{same_key, is_taken, are_new}

-- ---- keys that differ are new

number_flip : (i j : ℕ) → nat_eq i j ≡ nat_eq j i
number_flip i j = same_from_decides (nat_eq i j) (nat_eq j i) (Decides-eqb i j)
    (Decides-like (nat_eq j i) sym sym (Decides-eqb j i))

key_flip : (a b : Key) → same_key a b ≡ same_key b a
key_flip (key.Name a) (key.Name b) = name_flip a b
key_flip (key.Name a) (key.Interrupt j) = refl
key_flip (key.Interrupt i) (key.Name b) = refl
key_flip (key.Interrupt i) (key.Interrupt j) = number_flip i j

Free : List Key → List Key → Type 0
Free taken ks = AllByRecursion (λ k. is_taken k taken ≡ false) ks

still_free : (taken : List Key) (k : Key) (ks : List Key) → AllByRecursion (λ j. same_key k j ≡ false) ks
    → Free taken ks → Free (taken ++ k ∷ []) ks
unfolding Free
still_free taken k [] differs free = tt
still_free taken k (j ∷ ks) differs free =
    let here : is_taken j (taken ++ k ∷ []) ≡ false = list_any-append (same_key j) taken (k ∷ [])
    ∙ rw (free.0, key_flip j k, differs.0) refl in
    (here, still_free taken k ks differs.1 free.1)

distinct_new : (taken ks : List Key) → IsDistinct same_key ks → Free taken ks → are_new taken ks ≡ true
unfolding are_new IsDistinct Free
distinct_new taken [] distinct free = refl
distinct_new taken (k ∷ ks) distinct free = rw free.0 (distinct_new (taken ++ k ∷ []) ks distinct.1
    (still_free taken k ks distinct.0 free.1))

all_free : (ks : List Key) → Free [] ks
unfolding Free
all_free [] = tt
all_free (k ∷ ks) = (refl, all_free ks)

-- ---- names and numbers

numbers_differ : (is : List ℕ) → IsDistinct nat_eq is → IsDistinct same_key (map key.Interrupt is)
unfolding IsDistinct
numbers_differ [] h = tt
numbers_differ (i ∷ is) h = (each is h.0, numbers_differ is h.1)
  where
    each : (js : List ℕ) → AllByRecursion (λ j. nat_eq i j ≡ false) js
        → AllByRecursion (λ k. same_key (key.Interrupt i) k ≡ false) (map key.Interrupt js)
    each [] a = tt
    each (j ∷ js) a = (a.0, each js a.1)

name_differs : (n : Name) (ns : List Name) (is : List ℕ) → AllByRecursion (λ m. same_name n m ≡ false) ns →
    AllByRecursion (λ k. same_key (key.Name n) k ≡ false) (map key.Name ns ++ map key.Interrupt is)
name_differs n (m ∷ ns) is h = (h.0, name_differs n ns is h.1)
name_differs n [] is h = from_numbers is
  where
    from_numbers : (js : List ℕ) → AllByRecursion (λ k. same_key (key.Name n) k ≡ false) (map key.Interrupt js)
    from_numbers [] = tt
    from_numbers (j ∷ js) = (refl, from_numbers js)

keys_differ : (ns : List Name) (is : List ℕ) → IsDistinct same_name ns → IsDistinct nat_eq is
    → IsDistinct same_key (map key.Name ns ++ map key.Interrupt is)
unfolding IsDistinct
keys_differ [] is h k = numbers_differ is k
keys_differ (n ∷ ns) is h k = (name_differs n ns is h.0, keys_differ ns is h.1 k)

-- ---- the keys of tables are their names and then the interrupt numbers

keys_step : {A : Type 0} (f : A → Name) (rows : List A) (names : List Name) (rest numbers : List Key) → rest
    ≡ map key.Name names ++ numbers →
    map (λ x. key.Name (f x)) rows ++ rest ≡ map key.Name (map f rows ++ names) ++ numbers
keys_step f [] names rest numbers e = e
keys_step f (x ∷ rows) names rest numbers e = ap (λ ks. key.Name (f x) ∷ ks) (keys_step f rows names rest numbers e)

keys_last : {A : Type 0} (f : A → Name) (rows : List A) (numbers : List Key) → map (λ x. key.Name (f x)) rows
    ++ numbers ≡ map key.Name (map f rows) ++ numbers
keys_last f [] numbers = refl
keys_last f (x ∷ rows) numbers = ap (λ ks. key.Name (f x) ∷ ks) (keys_last f rows numbers)

keys_numbers : {A : Type 0} (f : A → ℕ) (rows : List A) → map (λ x. key.Interrupt (f x)) rows
    ≡ map key.Interrupt (map f rows)
keys_numbers f [] = refl
keys_numbers f (x ∷ rows) = ap (λ ks. key.Interrupt (f x) ∷ ks) (keys_numbers f rows)

pub keys_are : (t : SystemTables) → keys_of t ≡ map key.Name (object_names t)
    ++ map key.Interrupt (map interrupt_number t.interrupts)
keys_are t =
    keys_step task_name t.tasks _ _ _ (keys_step semaphore_name t.semaphores _ _ _ (keys_step flag_name t.flags _ _ _
    (keys_step data_queue_name t.data_queues _ _ _ (keys_step mailbox_name t.mailboxes _ _ _
    (keys_step message_name t.messages _ _ _
    (keys_step shared_word_name t.shared_words _ _ _ (keys_step spin_lock_name t.spin_locks _ _ _
    (ap (λ numbers. map (λ c. key.Name (cyclic_name c)) t.cyclics ++ numbers)
    (keys_numbers interrupt_number t.interrupts)
    ∙ keys_last cyclic_name t.cyclics (map key.Interrupt (map interrupt_number t.interrupts))))))))))

pub keys_new : (t : SystemTables) → IsConfiguration t → are_new [] (keys_of t) ≡ true
keys_new t h =
    rw (keys_are t) (distinct_new [] _ (keys_differ (object_names t) (map interrupt_number t.interrupts) h.distinct
    h.numbers) (all_free _))

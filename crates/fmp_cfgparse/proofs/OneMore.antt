-- One more row of a table, one more name and one more interrupt number.
use Rattle.std.proofs.Common.{◌≡◌, ℕ, ℤ, pos, negsuc, ◌<◌, ◌≤◌, nat_le, nat_eq, Bool, true, false, ◌&&◌, ◌||◌, List, []}
use Rattle.std.proofs.Common.{◌∷◌, ◌++◌, length, map, refl, sym, ◌∙◌, arith, append_assoc, length-append}
use Rattle.std.proofs.lemmas.Bool.{leb-true, leb-false}
use Rattle.std.proofs.lemmas.Bool.Decides.{Decides-like, same_from_decides, nat_tests}
use Rattle.std.proofs.lemmas.List.{map-append}
use Rattle.std.proofs.lemmas.List.Elements.{All-from_recursion, recursion_from_All}
use Rattle.std.proofs.lemmas.List.Sorted.{IsPermutation-refl, IsPermutation-append_comm, IsPermutation-append_right}
use Rattle.std.proofs.lemmas.List.Sorted.{All-permutation}
use Rattle.std.proofs.lemmas.Map.Keys.{IsDistinct-IsPermutation}
use Rattle.std.proofs.lemmas.Slice.Eq.{bytes_eq-Decides}
use Rattle.std.specs.List.{AllByRecursion, IsDistinct}
use Rattle.std.specs.List.Sorted.{IsPermutation}
use Rattle.std.specs.Str.{bytes_eq}
use Rattle.fmp_base.specs.Names.{name_text}
use Rattle.fmp_base.specs.Ranges.{Lies, IsTable}
use Rattle.fmp_base.specs.declared.names.Name.{Name}
use Rattle.fmp_base.specs.declared.systems.InterruptConfig.{InterruptConfig}
use Rattle.fmp_cfgparse.specs.Apis.{is_used, is_defined}
use Rattle.fmp_cfgparse.specs.Tables.{IsObjectName, same_name, interrupt_number}
use Rattle.fmp_cfgparse.specs.Values.{between, held}

pub both : (a b : Bool) → (a && b) ≡ true → (a ≡ true) × (b ≡ true)
both true b e = (refl, e)
both false b e = cc

neither : (a b : Bool) → (a || b) ≡ false → (a ≡ false) × (b ≡ false)
neither true b e = cc
neither false b e = (refl, e)

fits_below : (n most : ℕ) → n ≤ most → nat_le n most ≡ true
fits_below n most le = grind (arith, nat_tests)

-- a number that lies within a range is held
pub held_lies : (most low high : ℕ) (z : ℤ) → high ≤ most → between low high z ≡ true → Lies low high (held most z)
held_lies most low high (pos n) fits e =
    let a = both (nat_le low n) (nat_le n high) e in
    let least : low ≤ n = leb-true low n a.0 in
    let top : n ≤ high = leb-true n high a.1 in
    let is_held : nat_le n most ≡ true = fits_below n most (omega arith) in
    rw is_held (record { least = least; most = top })
held_lies most low high (negsuc n) fits e = cc

pub all_more : {A : Type 0} (P : A → Type 0) (xs : List A) (x : A) → AllByRecursion P xs → P x
    → AllByRecursion P (xs ++ x ∷ [])
all_more P [] x h p = (p, tt)
all_more P (y ∷ ys) x h p = (h.0, all_more P ys x h.1 p)

pub count_more : {A : Type 0} (rows : List A) (row : A) → nat_le 255 (length rows) ≡ false
    → length (rows ++ row ∷ []) ≤ 255
count_more rows row room =
    let below : length rows < 255 = leb-false 255 (length rows) room in
    omega (arith, length-append rows (row ∷ []))

pub row_more : {A : Type 0} (P : A → Type 0) (rows : List A) (row : A) → IsTable P rows → nat_le 255 (length rows)
    ≡ false → P row → IsTable P (rows ++ row ∷ [])
row_more P rows row h room p = record { count = count_more rows row room; each = all_more P rows row h.each p }

-- what differs from all others is one more that differs
distinct_more : {A : Type 0} (same : A → A → Bool) (xs : List A) (x : A) → IsDistinct same xs
    → AllByRecursion (λ y. same y x ≡ false) xs → IsDistinct same (xs ++ x ∷ [])
unfolding IsDistinct
distinct_more same [] x h new = (tt, tt)
distinct_more same (y ∷ ys) x h new = (
  all_more (λ z. same y z ≡ false) ys x h.0 new.0,
  distinct_more same ys x h.1
      new.1,
)

-- ---- names

bytes_flip : (xs ys : List ℕ) → bytes_eq xs ys ≡ bytes_eq ys xs
bytes_flip xs ys =
    same_from_decides (bytes_eq xs ys) (bytes_eq ys xs) (bytes_eq-Decides xs ys)
    (Decides-like (bytes_eq ys xs) sym sym (bytes_eq-Decides ys xs))

pub name_flip : (a b : Name) → same_name a b ≡ same_name b a
name_flip a b = bytes_flip (name_text a) (name_text b)

unused_differs : (names : List Name) (n : Name) → is_used names n ≡ false
    → AllByRecursion (λ m. same_name m n ≡ false) names
unused_differs [] n e = tt
unused_differs (m ∷ ms) n e = let a = neither (same_name n m) (is_used ms n) e in
    (name_flip m n ∙ a.0, unused_differs ms n a.1)

pub name_more : (names : List Name) (n : Name) → IsDistinct same_name names → is_used names n ≡ false
    → IsDistinct same_name (names ++ n ∷ [])
name_more names n h unused = distinct_more same_name names n h (unused_differs names n unused)

pub listed_distinct : (names listed : List Name) → IsPermutation names listed → IsDistinct same_name names
    → IsDistinct same_name listed
listed_distinct names listed moved h = IsDistinct-IsPermutation same_name name_flip names listed moved h

pub listed_named : (names listed : List Name) → IsPermutation names listed → AllByRecursion IsObjectName names
    → AllByRecursion IsObjectName listed
listed_named names listed moved h =
    recursion_from_All IsObjectName listed (All-permutation IsObjectName names listed moved
    (All-from_recursion IsObjectName names h))

-- one more row of the first table of those that follow
pub name_here : {A : Type 0} (f : A → Name) (rows : List A) (row : A) (rest : List Name)
    → IsPermutation ((map f rows ++ rest) ++ f row ∷ []) (map f (rows ++ row ∷ []) ++ rest)
name_here f rows row rest =
    let one : List Name = f row ∷ [] in
    let moved : IsPermutation (map f rows ++ (rest ++ one)) (map f rows ++ (one ++ rest)) =
    IsPermutation-append_right (map f rows) (rest ++ one) (one ++ rest) (IsPermutation-append_comm rest one) in
    rw (append_assoc (map f rows) rest one, map-append f rows (row ∷ []), append_assoc (map f rows) one rest) moved

pub name_last : {A : Type 0} (f : A → Name) (rows : List A) (row : A)
    → IsPermutation (map f rows ++ f row ∷ []) (map f (rows ++ row ∷ []))
name_last f rows row = rw (map-append f rows (row ∷ [])) (IsPermutation-refl (map f rows ++ f row ∷ []))

-- one more in a later table
pub name_later : (xs ys zs : List Name) (n : Name) → IsPermutation (ys ++ n ∷ []) zs
    → IsPermutation ((xs ++ ys) ++ n ∷ []) (xs ++ zs)
name_later xs ys zs n moved = rw (append_assoc xs ys (n ∷ [])) (IsPermutation-append_right xs (ys ++ n ∷ []) zs moved)

-- ---- interrupt numbers

undefined_differs : (is : List InterruptConfig) (number : ℕ) → is_defined is number ≡ false
    → AllByRecursion (λ k. nat_eq k number ≡ false) (map interrupt_number is)
undefined_differs [] number e = tt
undefined_differs (i ∷ is) number e = let a = neither (nat_eq i.number number) (is_defined is number) e in
    (a.0, undefined_differs is number a.1)

pub number_more : (is : List InterruptConfig) (i : InterruptConfig) → IsDistinct nat_eq (map interrupt_number is)
    → is_defined is i.number ≡ false →
    IsDistinct nat_eq (map interrupt_number (is ++ i ∷ []))
number_more is i h undefined_ =
    rw (map-append interrupt_number is (i ∷ [])) (distinct_more nat_eq (map interrupt_number is) i.number h
    (undefined_differs is i.number undefined_))

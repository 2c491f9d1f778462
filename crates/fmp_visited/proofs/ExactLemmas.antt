-- Rows in which each byte is the one that `pack` writes for the values that were read from them.
use Rattle.std.proofs.Common.{◌≡◌, ◌<◌, ◌≤◌, ◌+◌, ◌-◌, ◌*◌, ◌/◌, ◌%◌, ◌^◌, ℕ, zero, suc, Bool, true, false, cond}
use Rattle.std.proofs.Common.{nat_eq, List, [], ◌∷◌, ◌++◌, inl, inr, refl, sym, ap, ◌∙◌, append_assoc, append-nil}
use Rattle.std.proofs.Common.{add-one, mul-add, mul-one, mul-zero, mul_assoc, subst, get_or, length, min, take, drop}
use Rattle.std.proofs.Common.{arith, length-drop, not, ◌&&◌}
use Rattle.std.proofs.Math.Nat.{pow-suc, pow-succ'}
use Rattle.std.proofs.lemmas.Bool.{cases_lt, eq-eqb, ne_eqb}
use Rattle.std.proofs.lemmas.Nat.{pow-add}
use Rattle.std.proofs.lemmas.List.{drop-drop, drop-set-lt, drop-take, drop_all, drop_at, drop_more, get_or-drop}
use Rattle.std.proofs.lemmas.List.{length-take-le, take-append-drop, take-take, take_all, take_at, take_min}
use lib.Count.{count_trailing_zeros, under}
use lib.ListN.{set}
use Rattle.fmp_visited.specs.Rows.{bytes_of, changes_of, group_at, groups_from, mask_of, row_of}
use Rattle.fmp_visited.proofs.ChangeLemmas.{shifted}
use Rattle.fmp_visited.proofs.NumberLemmas.{bytes_small}
use Rattle.fmp_visited.proofs.RowLemmas.{groups-more}

-- ---- the lowest bit that is set

-- a number that is not 0 is its lowest bit and the bits above it
lowest-bit : (w n : ℕ) → 0 < n → n < 2 ^ w
    → n ≡ 2 ^ count_trailing_zeros w n * (1 + 2 * (n / 2 ^ count_trailing_zeros w n / 2))
unfolding count_trailing_zeros
lowest-bit zero n some lt = absurd (omega (arith, lt))
lowest-bit (suc w) n some lt =
    by_parity (n % 2) refl (λ even. lowest-bit w (n / 2) (omega (arith, even)) (omega (arith, lt, pow-succ' 2 w))) where
      by_parity : (r : ℕ) → n % 2 ≡ r
          → (n % 2 ≡ 0 → n / 2 ≡ 2 ^ count_trailing_zeros w (n / 2)
          * (1 + 2 * (n / 2 / 2 ^ count_trailing_zeros w (n / 2) / 2)))
          → n ≡ 2 ^ under r (count_trailing_zeros w (n / 2))
          * (1 + 2 * (n / 2 ^ under r (count_trailing_zeros w (n / 2)) / 2))
      by_parity zero e rest =
          let t : ℕ = count_trailing_zeros w (n / 2) in
          let above : ℕ = 1 + 2 * (n / 2 / 2 ^ t / 2) in
          let half : n ≡ 2 * (n / 2) = omega (arith, e) in
          half
          ∙ (ap (λ (m : ℕ). 2 * m) (rest e)
          ∙ (sym (mul_assoc 2 (2 ^ t) above)
          ∙ (ap (λ (p : ℕ). p * above) (sym (pow-succ' 2 t))
          ∙ ap (λ (m : ℕ). 2 ^ suc t * (1 + 2 * (m / 2))) (sym (shifted n t)))))
      by_parity (suc r) e rest = omega (arith, e)

-- ---- a group

mask-same : (f : List ℕ) → mask_of f f ≡ 0
mask-same [] = refl
mask-same (b ∷ f) =
    let none : 0 + 2 * mask_of f f ≡ 0 = omega (arith, mask-same f) in
    ap (λ (t : Bool). cond t 0 1 + 2 * mask_of f f) (eq-eqb b b refl) ∙ none

changes-same : (f : List ℕ) → changes_of f f ≡ []
changes-same [] = refl
changes-same (b ∷ f) = ap (λ (t : Bool). cond t [] (bytes_of b) ++ changes_of f f) (eq-eqb b b refl) ∙ changes-same f

-- something is left of a list where fewer elements are dropped than it has
none-left : (j : ℕ) (f : List ℕ) → j < length f → [] ≡ drop j f → ⊥
none-left j f lt none =
    let long : length (drop j f) ≡ length f - j = length-drop j f in
    let empty : 0 ≡ length (drop j f) = ap (λ (xs : List ℕ). length xs) none in
    omega (arith, lt, long, empty)

-- one more value differs, and none after it does
mask-set : (j x : ℕ) (f v : List ℕ) → j < length f → drop j v ≡ drop j f → (x ≡ get_or f j 0 → ⊥)
    → mask_of f (set v j x) ≡ mask_of f v + 2 ^ j
mask-set j x [] v lt same differs = absurd (omega (arith, lt))
mask-set zero x (b ∷ f) [] lt same differs = absurd (none-left zero (b ∷ f) lt same)
mask-set (suc j) x (b ∷ f) [] lt same differs = absurd (none-left (suc j) (b ∷ f) lt same)
mask-set zero x (b ∷ f) (a ∷ v) lt same differs =
    let first : a ≡ b = cc in
    let m : ℕ = mask_of f v in
    let one : 1 + 2 * m ≡ 0 + 2 * m + 1 = omega arith in
    ap (λ (t : Bool). cond t 0 1 + 2 * m) (ne_eqb x b differs)
    ∙ (one ∙ ap (λ (t : Bool). cond t 0 1 + 2 * m + 1) (sym (eq-eqb a b first)))
mask-set (suc j) x (b ∷ f) (a ∷ v) lt same differs =
    let rest : mask_of f (set v j x) ≡ mask_of f v + 2 ^ j = mask-set j x f v (omega (arith, lt)) same differs in
    let bit : ℕ = cond (nat_eq a b) 0 1 in
    omega (arith, rest, pow-succ' 2 j)

changes-set : (j x : ℕ) (f v : List ℕ) → j < length f → drop j v ≡ drop j f → (x ≡ get_or f j 0 → ⊥)
    → changes_of f (set v j x) ≡ changes_of f v ++ bytes_of x
changes-set j x [] v lt same differs = absurd (omega (arith, lt))
changes-set zero x (b ∷ f) [] lt same differs = absurd (none-left zero (b ∷ f) lt same)
changes-set (suc j) x (b ∷ f) [] lt same differs = absurd (none-left (suc j) (b ∷ f) lt same)
changes-set zero x (b ∷ f) (a ∷ v) lt same differs =
    let first : a ≡ b = cc in
    let rest : v ≡ f = cc in
    let none : changes_of f v ≡ [] = ap (λ (w : List ℕ). changes_of f w) rest ∙ changes-same f in
    ap (λ (t : Bool). cond t [] (bytes_of x) ++ changes_of f v) (ne_eqb x b differs)
    ∙ (ap (λ (c : List ℕ). bytes_of x ++ c) none
    ∙ (append-nil (bytes_of x)
    ∙ (ap (λ (c : List ℕ). c ++ bytes_of x) (sym none)
    ∙ ap (λ (t : Bool). (cond t [] (bytes_of a) ++ changes_of f v) ++ bytes_of x) (sym (eq-eqb a b first)))))
changes-set (suc j) x (b ∷ f) (a ∷ v) lt same differs =
    let here : List ℕ = cond (nat_eq a b) [] (bytes_of a) in
    ap (λ (c : List ℕ). here ++ c) (changes-set j x f v (omega (arith, lt)) same differs)
    ∙ sym (append_assoc here (changes_of f v) (bytes_of x))

-- the values of a group were read up to a field, and these bits of its mask are left
pub record AreRead (row old new : List ℕ) (place mask field bits at : ℕ) : Type 0 where
  pub back : drop field new ≡ drop field old
  pub masks : mask_of old new + 2 ^ field * bits ≡ mask
  pub bytes : drop place row ≡ changes_of old new ++ drop at row

pub read-begun : (row old : List ℕ) (place mask : ℕ) → AreRead row old old place mask 0 mask place
read-begun row old place mask =
    record {
      back = refl;
      masks = omega (arith, mask-same old);
      bytes = ap (λ (c : List ℕ). c ++ drop place row) (sym (changes-same old));
    }

some-left : (n : ℕ) → (n ≡ 0 → ⊥) → 0 < n
some-left zero some = absurd (some refl)
some-left (suc n) some = omega arith

behind : (field s : ℕ) (new old : List ℕ) → drop field new ≡ drop field old
    → drop (field + s) new ≡ drop (field + s) old
behind field s new old same =
    sym (drop-drop s field new) ∙ (ap (λ (xs : List ℕ). drop s xs) same ∙ drop-drop s field old)

-- the bits that are left after the lowest one
bits-left : (field s bits : ℕ) → (bits ≡ 0 → ⊥) → bits < 256 → s ≡ count_trailing_zeros 8 bits
    → 2 ^ (field + s) + 2 ^ (field + s + 1) * (bits / 2 ^ s / 2) ≡ 2 ^ field * bits
bits-left field s bits some few zeros =
    let left : ℕ = bits / 2 ^ s / 2 in
    let split : bits ≡ 2 ^ s * (1 + 2 * left) =
    subst (λ (t : ℕ). bits ≡ 2 ^ t * (1 + 2 * (bits / 2 ^ t / 2))) (sym zeros)
    (lowest-bit 8 bits (some-left bits some) (omega (arith, few))) in
    let unit : 2 ^ (field + s) ≡ 2 ^ field * 2 ^ s = pow-add 2 field s in
    let next : 2 ^ (field + s + 1) ≡ 2 ^ (field + s) * 2 =
    ap (λ (n : ℕ). 2 ^ n) (add-one (field + s)) ∙ pow-suc 2 (field + s) in
    let p : ℕ = 2 ^ (field + s) in
    let one : p * (1 + 2 * left) ≡ p + p * 2 * left =
    mul-add p 1 (2 * left)
    ∙ (ap (λ (n : ℕ). n + p * (2 * left)) (mul-one p) ∙ ap (λ (n : ℕ). p + n) (sym (mul_assoc p 2 left))) in
    ap (λ (n : ℕ). p + n * left) next
    ∙ (sym one
    ∙ (ap (λ (n : ℕ). n * (1 + 2 * left)) unit
    ∙ (mul_assoc (2 ^ field) (2 ^ s) (1 + 2 * left) ∙ ap (λ (n : ℕ). 2 ^ field * n) (sym split))))

pub read-more : (row old new : List ℕ) (place mask field s bits at x after : ℕ) → length new ≡ length old
    → (bits ≡ 0 → ⊥) → bits < 256 → s ≡ count_trailing_zeros 8 bits → field + s < length new
    → (x ≡ get_or new (field + s) 0 → ⊥) → drop at row ≡ bytes_of x ++ drop after row
    → AreRead row old new place mask field bits at
    → AreRead row old (set new (field + s) x) place mask (field + s + 1) (bits / 2 ^ s / 2) after
read-more row old new place mask field s bits at x after long some few zeros lt differs told u =
    let j : ℕ = field + s in
    let same : drop j new ≡ drop j old = behind field s new old u.back in
    let value : get_or new j 0 ≡ get_or old j 0 =
    first-of j new old same in
    let other : x ≡ get_or old j 0 → ⊥ = λ is. differs (is ∙ sym value) in
    let there : j < length old = omega (arith, lt, long) in
    let set_mask : mask_of old (set new j x) ≡ mask_of old new + 2 ^ j = mask-set j x old new there same other in
    record {
      back = drop-set-lt (j + 1) new j x (omega arith) ∙ behind j 1 new old same;
      masks = omega (arith, set_mask, u.masks, bits-left field s bits some few zeros);
      bytes =
          u.bytes
          ∙ (ap (λ (c : List ℕ). changes_of old new ++ c) told
          ∙ (sym (append_assoc (changes_of old new) (bytes_of x) (drop after row))
          ∙ ap (λ (c : List ℕ). c ++ drop after row) (sym (changes-set j x old new there same other))));
    }
  where
    first-of : (j : ℕ) (new old : List ℕ) → drop j new ≡ drop j old → get_or new j 0 ≡ get_or old j 0
    first-of j new old same =
        let next : j + 0 ≡ j = omega arith in
        ap (λ (n : ℕ). get_or new n 0) (sym next)
        ∙ (sym (get_or-drop j new 0 0)
        ∙ (ap (λ (xs : List ℕ). get_or xs 0 0) same
        ∙ (get_or-drop j old 0 0 ∙ ap (λ (n : ℕ). get_or old n 0) next)))

-- where a mark says that two numbers differ, they do
pub and_differs : (t : Bool) (a b : ℕ) → (t && not (nat_eq a b)) ≡ true → a ≡ b → ⊥
and_differs true a b told is = let clash : false ≡ true = ap not (sym (eq-eqb a b is)) ∙ told in cc
and_differs false a b told is = absurd cc

-- no bit is left
pub read-whole : (row old new : List ℕ) (place mask field bits at : ℕ) → bits ≡ 0
    → AreRead row old new place mask field bits at
    → (mask ≡ mask_of old new) × (drop place row ≡ changes_of old new ++ drop at row)
read-whole row old new place mask field bits at none u =
    let nothing : 2 ^ field * bits ≡ 0 = ap (λ (n : ℕ). 2 ^ field * n) none ∙ mul-zero (2 ^ field) in
    (omega (arith, u.masks, nothing), u.bytes)

-- ---- a row

-- this many groups were read: the row is that of any values that begin with theirs, if the bytes from a place on are
-- those of the other groups
pub record AreGroupsRead (row old new : List ℕ) (group at : ℕ) : Type 0 where
  pub back : drop (group * 8) new ≡ drop (group * 8) old
  pub told :
      (v : List ℕ) → take (group * 8) v ≡ take (group * 8) new →
      drop at row ≡ groups_from (length old / 8 + 1 - group) (group * 8) old v → row ≡ row_of old v

pub groups-begun : (row old : List ℕ) → AreGroupsRead row old old 0 0
unfolding row_of
groups-begun row old =
    let all : length old / 8 + 1 - 0 ≡ length old / 8 + 1 = omega arith in
    record { back = refl; told = λ v same is. is ∙ ap (λ (n : ℕ). groups_from n 0 old v) all }

-- the group that is read next: what stands there before, and what the values are with it
record IsGroup (s k : ℕ) (new part : List ℕ) : Type 0 where
  here : take k (drop s new) ≡ group_at s new
  read : group_at s (take s new ++ (part ++ drop k (drop s new))) ≡ part
  front : take s (take s new ++ (part ++ drop k (drop s new))) ≡ take s new
  back : drop (s + 8) (take s new ++ (part ++ drop k (drop s new))) ≡ drop (s + 8) new

-- what stands in the place of the first eight elements, or of all where there are fewer
eight-of : (k : ℕ) (part rest : List ℕ) → k ≡ min 8 (length rest) → length part ≡ k
    → (take 8 (part ++ drop k rest) ≡ part) × (drop 8 (part ++ drop k rest) ≡ drop 8 rest)
eight-of k part rest few long =
    elim (cases_lt (length rest) 8) [
      | inl less ↦
          let none : drop k rest ≡ [] = drop_all k rest (omega (arith, few, less)) in
          let all : part ++ drop k rest ≡ part = ap (λ (xs : List ℕ). part ++ xs) none ∙ append-nil part in (
            ap (λ (xs : List ℕ). take 8 xs) all ∙ take_all 8 part (omega (arith, few, long, less)),
            ap (λ (xs : List ℕ). drop 8 xs) all
                ∙ (drop_all 8 part (omega (arith, few, long, less)) ∙ sym (drop_all 8 rest (omega (arith, less)))),
          )
      | inr more ↦
          let is : k ≡ 8 = omega (arith, few, more) in (
            take_at part (drop k rest) 8 (omega (arith, long, is)),
            drop_at part (drop k rest) 8 (omega (arith, long, is)) ∙ ap (λ (n : ℕ). drop n rest) is,
          )
    ]

group-in : (s k : ℕ) (new part : List ℕ) → s ≤ length new → k ≡ min 8 (length new - s) → length part ≡ k
    → IsGroup s k new part
unfolding group_at
group-in s k new part le few long =
    let size : length (drop s new) ≡ length new - s = length-drop s new in
    let count : k ≡ min 8 (length (drop s new)) = few ∙ ap (λ (n : ℕ). min 8 n) (sym size) in
    let both = eight-of k part (drop s new) count long in
    let front : length (take s new) ≡ s = length-take-le s new le in
    let behind : drop s (take s new ++ (part ++ drop k (drop s new))) ≡ part ++ drop k (drop s new) =
    drop_at (take s new) (part ++ drop k (drop s new)) s front in
    record {
      here = ap (λ (n : ℕ). take n (drop s new)) count ∙ take_min 8 (drop s new);
      read = ap (λ (xs : List ℕ). take 8 xs) behind ∙ both.0;
      front = take_at (take s new) (part ++ drop k (drop s new)) s front;
      back =
          sym (drop-drop 8 s (take s new ++ (part ++ drop k (drop s new))))
          ∙ (ap (λ (xs : List ℕ). drop 8 xs) behind ∙ (both.1 ∙ drop-drop 8 s new));
    }

-- lists that begin alike have the same group
group-alike : (s : ℕ) (v w : List ℕ) → take (s + 8) v ≡ take (s + 8) w
    → (take s v ≡ take s w) × (group_at s v ≡ group_at s w)
unfolding group_at
group-alike s v w same = (
  sym (take-take s (s + 8) v (omega arith)) ∙ (ap (λ (xs : List ℕ). take s xs) same ∙ take-take s (s + 8) w
      (omega arith)),
  sym (drop-take s 8 v) ∙ (ap (λ (xs : List ℕ). drop s xs) same ∙ drop-take s 8 w),
)

same-group : (s : ℕ) (new old : List ℕ) → drop s new ≡ drop s old → group_at s new ≡ group_at s old
unfolding group_at
same-group s new old same = ap (λ (xs : List ℕ). take 8 xs) same

pub groups-next : (row old new part : List ℕ) (group k at after : ℕ) → length new ≡ length old
    → group < length old / 8 + 1 → at < length row → k ≡ min 8 (length new - group * 8) → length part ≡ k
    → get_or row at 0 ≡ mask_of (take k (drop (group * 8) new)) part
    → drop (at + 1) row ≡ changes_of (take k (drop (group * 8) new)) part ++ drop after row
    → AreGroupsRead row old new group at
    → AreGroupsRead row old (take (group * 8) new ++ (part ++ drop k (drop (group * 8) new))) (group + 1) after
groups-next row old new part group k at after long lt there few size mask bytes u =
    let s : ℕ = group * 8 in
    let next : s + 8 ≡ (group + 1) * 8 = omega arith in
    let more : List ℕ = take s new ++ (part ++ drop k (drop s new)) in
    let g : IsGroup s k new part = group-in s k new part (omega (arith, lt, long)) few size in
    let fields : take k (drop s new) ≡ group_at s old = g.here ∙ same-group s new old u.back in
    let first : drop at row ≡ mask_of (group_at s old) part ∷ (changes_of (group_at s old) part ++ drop after row) =
    drop_more row at 0 there
    ∙ (ap (λ (x : ℕ). x ∷ drop (at + 1) row) mask
    ∙ (ap (λ (xs : List ℕ). mask_of (take k (drop s new)) part ∷ xs) bytes
    ∙ ap (λ (f : List ℕ). mask_of f part ∷ (changes_of f part ++ drop after row)) fields)) in
    record {
      back =
          ap (λ (n : ℕ). drop n more) (sym next)
          ∙ (g.back
          ∙ (sym (drop-drop 8 s new)
          ∙ (ap (λ (xs : List ℕ). drop 8 xs) u.back ∙ (drop-drop 8 s old ∙ ap (λ (n : ℕ). drop n old) next))));
      told = λ v same rest.
          let alike = group-alike s v more
          (ap (λ (n : ℕ). take n v) next ∙ (same ∙ ap (λ (n : ℕ). take n more) (sym next))) in
          let values : group_at s v ≡ part = alike.1 ∙ g.read in
          u.told v (alike.0 ∙ g.front)
          (first
          ∙ (ap (λ (xs : List ℕ). mask_of (group_at s old) part ∷ (changes_of (group_at s old) part ++ xs)) rest
          ∙ (ap (λ (p : List ℕ). mask_of (group_at s old) p ∷ (changes_of (group_at s old) p
          ++ groups_from (length old / 8 + 1 - (group + 1)) ((group + 1) * 8) old v)) (sym values)
          ∙ sym (groups-more (length old / 8 + 1) group old v lt))));
    }

pub groups-whole : (row old new : List ℕ) (group at : ℕ) → length old / 8 + 1 ≤ group → at ≡ length row
    → AreGroupsRead row old new group at → row ≡ row_of old new
groups-whole row old new group at all last u =
    let none : length old / 8 + 1 - group ≡ 0 = omega (arith, all) in
    u.told new refl
    (drop_all at row (omega (arith, last))
    ∙ ap (λ (n : ℕ). groups_from n (group * 8) old new) (sym none))

-- ---- a number

-- the bytes between two places are those of a number
pub number-between : (row bytes part : List ℕ) (place end number : ℕ) → place ≤ end → end ≤ length row
    → part ≡ take (end - place) (drop place row) → part ≡ bytes → bytes ≡ bytes_of number
    → drop place row ≡ bytes_of number ++ drop end row
number-between row bytes part place end number le within is same told =
    let next : place + (end - place) ≡ end = omega (arith, le) in
    sym (take-append-drop (end - place) (drop place row))
    ∙ (ap (λ (xs : List ℕ). xs ++ drop (end - place) (drop place row)) (sym is ∙ (same ∙ told))
    ∙ ap (λ (xs : List ℕ). bytes_of number ++ xs)
    (drop-drop (end - place) place row ∙ ap (λ (n : ℕ). drop n row) next))

-- a number of one byte
pub number_here : (row : List ℕ) (place : ℕ) → place < length row → get_or row place 0 < 128
    → drop place row ≡ bytes_of (get_or row place 0) ++ drop (place + 1) row
number_here row place lt low =
    drop_more row place 0 lt
    ∙ ap (λ (xs : List ℕ). xs ++ drop (place + 1) row) (sym (bytes_small (get_or row place 0) low))

-- Rows tell values.
use Rattle.std.proofs.Common.{◌≡◌, ◌<◌, ◌≤◌, ◌+◌, ◌-◌, ◌*◌, ◌/◌, ◌^◌, min, ℕ, zero, suc, Bool, true, false, cond}
use Rattle.std.proofs.Common.{nat_eq, List, [], ◌∷◌, ◌++◌, refl, sym, ap, subst, ◌∙◌, append_assoc}
use Rattle.std.proofs.Common.{add_assoc, add-zero, zero-add, mul_assoc, mul-add, mul-one, mul-zero, le-add_right}
use Rattle.std.proofs.Common.{pow-suc, inl, inr, get_or, length, take, drop, arith, length-drop}
use Rattle.std.proofs.lemmas.Bool.{cases_lt, eqb-true, eq-eqb, ne_eqb}
use Rattle.std.proofs.lemmas.List.{length-take, get_or-take, get_or-drop, drop-drop, drop_all, drop_more}
use Rattle.std.proofs.lemmas.List.{take-append-drop}
use Rattle.std.proofs.lemmas.Nat.{pow_below, pow_pos}
use Rattle.fmp_visited.specs.Rows.{AreValues, bytes_of, changes_of, group_at, groups_from, mask_of, row_of}
use Rattle.fmp_visited.proofs.NumberLemmas.{bytes-told}

-- ---- groups

pub length-group : (s : ℕ) (v : List ℕ) → length (group_at s v) ≡ min 8 (length v - s)
unfolding group_at
length-group s v = length-take 8 (drop s v) ∙ ap (λ (n : ℕ). min 8 n) (length-drop s v)

pub whole_group : (s : ℕ) (v : List ℕ) → take (s + 8 - s) (drop s v) ≡ group_at s v
unfolding group_at
whole_group s v = let size : s + 8 - s ≡ 8 = omega arith in ap (λ (n : ℕ). take n (drop s v)) size

pub group-split : (s : ℕ) (v : List ℕ) → group_at s v ++ drop (s + 8) v ≡ drop s v
unfolding group_at
group-split s v =
    ap (λ (rest : List ℕ). take 8 (drop s v) ++ rest) (sym (drop-drop 8 s v)) ∙ take-append-drop 8 (drop s v)

values-first : (a : ℕ) (v : List ℕ) → AreValues (a ∷ v) → a < 2 ^ 32
values-first a v h = h 0 0 (omega arith)

values-rest : (a : ℕ) (v : List ℕ) → AreValues (a ∷ v) → AreValues v
values-rest a v h k d lt = h (suc k) d (omega arith)

pub values-group : (s : ℕ) (v : List ℕ) → AreValues v → AreValues (group_at s v)
unfolding group_at
values-group s v h k d lt =
    let few : length (take 8 (drop s v)) ≡ min 8 (length v - s) = length-take 8 (drop s v)
    ∙ ap (λ (n : ℕ). min 8 n) (length-drop s v) in
    let low : k < 8 = omega (arith, lt, few) in
    let there : s + k < length v = omega (arith, lt, few) in
    subst (λ (x : ℕ). x < 2 ^ 32) (sym (get_or-take 8 (drop s v) k d low ∙ get_or-drop s v k d)) (h (s + k) d there)

-- ---- what a group tells

pub changes-told : (f v w x y : List ℕ) → length v ≡ length f → length w ≡ length f → AreValues v → AreValues w
    → mask_of f v ≡ mask_of f w → changes_of f v ++ x ≡ changes_of f w ++ y → (v ≡ w) × (x ≡ y)
changes-told [] [] [] x y m n p q masks e = (refl, e)
changes-told [] [] (c ∷ w) x y m n p q masks e = absurd cc
changes-told [] (a ∷ v) w x y m n p q masks e = absurd cc
changes-told (b ∷ f) [] w x y m n p q masks e = absurd cc
changes-told (b ∷ f) (a ∷ v) [] x y m n p q masks e = absurd cc
changes-told (b ∷ f) (a ∷ v) (c ∷ w) x y m n p q masks e =
    by_tests (nat_eq a b) (nat_eq c b) refl refl masks e
    (changes-told f v w x y (omega arith) (omega arith) (values-rest a v p) (values-rest c w q)) where
      by_tests : (s t : Bool) → nat_eq a b ≡ s → nat_eq c b ≡ t → cond s 0 1 + 2 * mask_of f v ≡ cond t 0 1
          + 2 * mask_of f w
          → (cond s [] (bytes_of a) ++ changes_of f v) ++ x ≡ (cond t [] (bytes_of c) ++ changes_of f w) ++ y
          → (mask_of f v ≡ mask_of f w → changes_of f v ++ x ≡ changes_of f w ++ y → (v ≡ w) × (x ≡ y))
          → ((a ∷ v) ≡ (c ∷ w)) × (x ≡ y)
      by_tests true true s t k l rest =
          let both = rest (omega arith) l in
          let first : a ≡ b = eqb-true a b s in
          let second : c ≡ b = eqb-true c b t in
          let same : v ≡ w = both.0 in
          (cc, both.1)
      by_tests true false s t k l rest = absurd (omega arith)
      by_tests false true s t k l rest = absurd (omega arith)
      by_tests false false s t k l rest =
          let front = bytes-told a c (changes_of f v ++ x) (changes_of f w ++ y) (values-first a v p)
          (values-first c w q)
          (sym (append_assoc (bytes_of a) (changes_of f v) x) ∙ (l ∙ append_assoc (bytes_of c) (changes_of f w) y)) in
          let both = rest (omega arith) front.1 in
          let first : a ≡ c = front.0 in
          let same : v ≡ w = both.0 in
          (cc, both.1)

-- ---- what a row tells

pub group-told : (s : ℕ) (f v w x y : List ℕ) → length v ≡ length f → length w ≡ length f → AreValues v → AreValues w
    → mask_of (group_at s f) (group_at s v) ∷ (changes_of (group_at s f) (group_at s v) ++ x)
    ≡ mask_of (group_at s f) (group_at s w) ∷ (changes_of (group_at s f) (group_at s w) ++ y)
    → (group_at s v ≡ group_at s w) × (x ≡ y)
group-told s f v w x y m n p q e =
    let size : length (group_at s f) ≡ min 8 (length f - s) = length-group s f in
    let one : length (group_at s v) ≡ min 8 (length v - s) = length-group s v in
    let other : length (group_at s w) ≡ min 8 (length w - s) = length-group s w in
    let masks : mask_of (group_at s f) (group_at s v) ≡ mask_of (group_at s f) (group_at s w) = cc in
    let behind : changes_of (group_at s f) (group_at s v) ++ x ≡ changes_of (group_at s f) (group_at s w) ++ y = cc in
    changes-told (group_at s f) (group_at s v) (group_at s w) x y (omega (arith, size, one, m))
    (omega (arith, size, other, n))
    (values-group s v p) (values-group s w q) masks behind

groups-told : (count s : ℕ) (f v w : List ℕ) → length v ≡ length f → length w ≡ length f → AreValues v → AreValues w
    → length f ≤ s + 8 * count → groups_from count s f v ≡ groups_from count s f w → drop s v ≡ drop s w
groups-told zero s f v w m n p q le e = drop_all s v (omega arith) ∙ sym (drop_all s w (omega arith))
groups-told (suc count) s f v w m n p q le e =
    let both = group-told s f v w (groups_from count (s + 8) f v) (groups_from count (s + 8) f w) m n p q e in
    let rest : drop (s + 8) v ≡ drop (s + 8) w = groups-told count (s + 8) f v w m n p q (omega arith) both.1 in
    sym (group-split s v)
    ∙ (ap (λ (g : List ℕ). g ++ drop (s + 8) v) both.0
    ∙ (ap (λ (r : List ℕ). group_at s w ++ r) rest ∙ group-split s w))

pub rows-told : (f v w : List ℕ) → length v ≡ length f → length w ≡ length f → AreValues v → AreValues w
    → row_of f v ≡ row_of f w → v ≡ w
unfolding row_of
rows-told f v w m n p q e = groups-told (length f / 8 + 1) 0 f v w m n p q (omega arith) e

-- ---- how a row is written

-- one more group
pub groups-more : (count i : ℕ) (f v : List ℕ) → i < count
    → groups_from (count - i) (i * 8) f v
    ≡ mask_of (group_at (i * 8) f) (group_at (i * 8) v)
    ∷ (changes_of (group_at (i * 8) f) (group_at (i * 8) v) ++ groups_from (count - (i + 1)) ((i + 1) * 8) f v)
groups-more count i f v lt =
    let left : count - i ≡ suc (count - (i + 1)) = omega arith in
    let next : i * 8 + 8 ≡ (i + 1) * 8 = omega arith in
    ap (λ (n : ℕ). groups_from n (i * 8) f v) left
    ∙ ap (λ (s : ℕ). mask_of (group_at (i * 8) f) (group_at (i * 8) v)
    ∷ (changes_of (group_at (i * 8) f) (group_at (i * 8) v) ++ groups_from (count - (i + 1)) s f v)) next

-- ---- the mask of a group, bit by bit

pub mask-small : (most : ℕ) (f v : List ℕ) → length f ≤ most → mask_of f v < 2 ^ most
mask-small most [] v le = pow_pos most
mask-small most (b ∷ f) [] le = pow_pos most
mask-small zero (b ∷ f) (a ∷ v) le = absurd (omega arith)
mask-small (suc most) (b ∷ f) (a ∷ v) le = by_test (nat_eq a b) (mask-small most f v (omega arith)) where
  by_test : (s : Bool) → mask_of f v < 2 ^ most → cond s 0 1 + 2 * mask_of f v < 2 ^ suc most
  by_test true lt = omega (arith, pow-suc 2 most)
  by_test false lt = omega (arith, pow-suc 2 most)

mask-nil : (f : List ℕ) → mask_of f [] ≡ 0
mask-nil [] = refl
mask-nil (b ∷ f) = refl

pub mask-end : (k : ℕ) (f v : List ℕ) → min (length f) (length v) ≤ k → mask_of (drop k f) (drop k v) ≡ 0
mask-end k f v le =
    elim (cases_lt k (length f)) [
      | inl lt ↦ ap (λ (w : List ℕ). mask_of (drop k f) w) (drop_all k v (omega arith)) ∙ mask-nil (drop k f)
      | inr past ↦ ap (λ (g : List ℕ). mask_of g (drop k v)) (drop_all k f past)
    ]

pub mask-more : (k : ℕ) (f v : List ℕ) → k < length f → k < length v
    → mask_of (drop k f) (drop k v)
    ≡ cond (nat_eq (get_or v k 0) (get_or f k 0)) 0 1 + 2 * mask_of (drop (k + 1) f) (drop (k + 1) v)
mask-more k f v in_first in_values =
    ap (λ (g : List ℕ). mask_of g (drop k v)) (drop_more f k 0 in_first)
    ∙ ap (λ (w : List ℕ). mask_of (get_or f k 0 ∷ drop (k + 1) f) w) (drop_more v k 0 in_values)

twice : (bit m : ℕ) → bit * (2 * m) ≡ bit * 2 * m
twice bit m = sym (mul_assoc bit 2 m)

-- the bit of a field that differs
pub bit-set : (k mask bit total : ℕ) (f v : List ℕ) → k < length f → k < length v
    → (get_or v k 0 ≡ get_or f k 0 → ⊥) → mask + bit * mask_of (drop k f) (drop k v) ≡ total
    → (mask + bit) + bit * 2 * mask_of (drop (k + 1) f) (drop (k + 1) v) ≡ total
bit-set k mask bit total f v in_first in_values differs e =
    let m : ℕ = mask_of (drop (k + 1) f) (drop (k + 1) v) in
    let here : mask_of (drop k f) (drop k v) ≡ 1 + 2 * m =
    mask-more k f v in_first in_values ∙ ap (λ (s : Bool). cond s 0 1 + 2 * m)
    (ne_eqb (get_or v k 0) (get_or f k 0) differs) in
    let spread : bit * (1 + 2 * m) ≡ bit + bit * 2 * m =
    mul-add bit 1 (2 * m) ∙ (ap (λ (n : ℕ). n + bit * (2 * m)) (mul-one bit) ∙ ap (λ (n : ℕ). bit + n) (twice bit m)) in
    add_assoc mask bit (bit * 2 * m) ∙ (ap (λ (n : ℕ). mask + n) (sym spread)
    ∙ (ap (λ (n : ℕ). mask + bit * n) (sym here) ∙ e))

-- the bit of one that does not
pub bit-clear : (k mask bit total : ℕ) (f v : List ℕ) → k < length f → k < length v
    → get_or v k 0 ≡ get_or f k 0 → mask + bit * mask_of (drop k f) (drop k v) ≡ total
    → mask + bit * 2 * mask_of (drop (k + 1) f) (drop (k + 1) v) ≡ total
bit-clear k mask bit total f v in_first in_values same e =
    let m : ℕ = mask_of (drop (k + 1) f) (drop (k + 1) v) in
    let here : mask_of (drop k f) (drop k v) ≡ 2 * m =
    mask-more k f v in_first in_values ∙ (ap (λ (s : Bool). cond s 0 1 + 2 * m)
    (eq-eqb (get_or v k 0) (get_or f k 0) same) ∙ zero-add (2 * m)) in
    ap (λ (n : ℕ). mask + n) (sym (twice bit m)) ∙ (ap (λ (n : ℕ). mask + bit * n) (sym here) ∙ e)

-- a mask in the making is not greater than the mask of a group
pub mask-fits : (k mask bit : ℕ) (f v : List ℕ) → length f ≤ 8 → k < length f → bit ≡ 2 ^ k
    → mask + bit * mask_of (drop k f) (drop k v) ≡ mask_of f v → mask + bit < 4294967296
mask-fits k mask bit f v few lt unit e =
    let small : mask_of f v < 256 = mask-small 8 f v few in
    let low : 2 ^ k < 2 ^ 8 = pow_below k 8 (omega arith) in
    let part : mask ≤ mask_of f v = subst (λ (n : ℕ). mask ≤ n) e (le-add_right mask
    (bit * mask_of (drop k f) (drop k v))) in
    omega (arith, small, low, part, unit)

pub mask-whole : (k mask bit : ℕ) (f v : List ℕ) → min (length f) (length v) ≤ k
    → mask + bit * mask_of (drop k f) (drop k v) ≡ mask_of f v → mask ≡ mask_of f v
mask-whole k mask bit f v le e =
    sym (ap (λ (n : ℕ). mask + n) (ap (λ (n : ℕ). bit * n) (mask-end k f v le) ∙ mul-zero bit) ∙ add-zero mask) ∙ e

-- the same of a full mask from which the bits of those are taken that do not differ
pub bit-kept : (k mask bit total : ℕ) (f v : List ℕ) → k < length f → k < length v
    → (get_or v k 0 ≡ get_or f k 0 → ⊥) → mask + bit * mask_of (drop k f) (drop k v) + bit ≡ total
    → mask + bit * 2 * mask_of (drop (k + 1) f) (drop (k + 1) v) + bit * 2 ≡ total
bit-kept k mask bit total f v in_first in_values differs e =
    let got = bit-set k mask bit (mask + bit * mask_of (drop k f) (drop k v)) f v in_first in_values differs refl in
    omega (arith, got, e)

pub bit-taken : (k mask bit total : ℕ) (f v : List ℕ) → k < length f → k < length v → bit ≤ mask
    → get_or v k 0 ≡ get_or f k 0 → mask + bit * mask_of (drop k f) (drop k v) + bit ≡ total
    → mask - bit + bit * 2 * mask_of (drop (k + 1) f) (drop (k + 1) v) + bit * 2 ≡ total
bit-taken k mask bit total f v in_first in_values le same e =
    let got = bit-clear k mask bit (mask + bit * mask_of (drop k f) (drop k v)) f v in_first in_values same refl in
    omega (arith, got, e, le)

pub bit-fits : (k mask bit : ℕ) → k < 8 → bit ≡ 2 ^ k → 256 ≤ mask + bit → bit ≤ mask
bit-fits k mask bit lt unit low =
    let small : 2 ^ k < 2 ^ 7 + 1 = half k lt in omega (arith, small, unit, low)
  where
    half : (k : ℕ) → k < 8 → 2 ^ k < 2 ^ 7 + 1
    half k lt =
        elim (cases_lt k 7) [
          | inl less ↦ let power : 2 ^ k < 2 ^ 7 = pow_below k 7 less in omega (arith, power)
          | inr more ↦
              let is : k ≡ 7 = omega arith in
              let power : 2 ^ k ≡ 2 ^ 7 = ap (λ (n : ℕ). 2 ^ n) is in omega (arith, power)
        ]

pub eight-whole : (k mask bit : ℕ) (f v : List ℕ) → k ≡ 8 → length f ≡ 8 → bit ≡ 2 ^ k
    → mask + bit * mask_of (drop k f) (drop k v) + bit ≡ mask_of f v + 256 → mask ≡ mask_of f v
eight-whole k mask bit f v last eight unit e =
    let none : bit * mask_of (drop k f) (drop k v) ≡ 0 =
    ap (λ (g : List ℕ). bit * mask_of g (drop k v)) (drop_all k f (omega arith)) ∙ mul-zero bit in
    let power : 2 ^ k ≡ 2 ^ 8 = ap (λ (n : ℕ). 2 ^ n) last in
    omega (arith, none, power, unit, e)

-- ---- the groups of a row, one by one

pub pack-begun : (row f v : List ℕ) → row ≡ [] → row ++ groups_from (length f / 8 + 1 - 0) (0 * 8) f v ≡ row_of f v
unfolding row_of
pack-begun row f v e =
    let all : length f / 8 + 1 - 0 ≡ length f / 8 + 1 = omega arith in
    ap (λ (r : List ℕ). r ++ groups_from (length f / 8 + 1 - 0) (0 * 8) f v) e ∙ ap (λ (n : ℕ). groups_from n 0 f v) all

pub pack-more : (i count : ℕ) (row new f v g h total : List ℕ) → i < count → g ≡ group_at (i * 8) f → h
    ≡ group_at (i * 8) v
    → new ≡ row ++ mask_of g h ∷ changes_of g h → row ++ groups_from (count - i) (i * 8) f v ≡ total
    → new ++ groups_from (count - (i + 1)) ((i + 1) * 8) f v ≡ total
pack-more i count row new f v g h total lt a b e done =
    let rest : List ℕ = groups_from (count - (i + 1)) ((i + 1) * 8) f v in
    let first : List ℕ = group_at (i * 8) f in
    let values : List ℕ = group_at (i * 8) v in
    let written : new ≡ row ++ mask_of first values ∷ changes_of first values =
    e ∙ (ap (λ (x : List ℕ). row ++ mask_of x h ∷ changes_of x h) a
    ∙ ap (λ (y : List ℕ). row ++ mask_of first y ∷ changes_of first y) b) in
    ap (λ (r : List ℕ). r ++ rest) written
    ∙ (append_assoc row (mask_of first values ∷ changes_of first values) rest
    ∙ (ap (λ (bytes : List ℕ). row ++ bytes) (sym (groups-more count i f v lt)) ∙ done))

-- one more group is written after bytes that are left in a block
pub pack-next : (i count : ℕ) (row left block kept written f v total : List ℕ) → i < count
    → left ++ kept ≡ row ++ block
    → written ≡ kept ++ mask_of (group_at (i * 8) f) (group_at (i * 8) v)
    ∷ changes_of (group_at (i * 8) f) (group_at (i * 8) v)
    → (row ++ block) ++ groups_from (count - i) (i * 8) f v ≡ total
    → (left ++ written) ++ groups_from (count - (i + 1)) ((i + 1) * 8) f v ≡ total
pack-next i count row left block kept written f v total lt same e done =
    let here : List ℕ = mask_of (group_at (i * 8) f) (group_at (i * 8) v)
    ∷ changes_of (group_at (i * 8) f) (group_at (i * 8) v) in
    pack-more i count (row ++ block) (left ++ written) f v (group_at (i * 8) f) (group_at (i * 8) v) total lt refl refl
    (ap (λ (bytes : List ℕ). left ++ bytes) e
    ∙ (sym (append_assoc left kept here) ∙ ap (λ (bytes : List ℕ). bytes ++ here) same))
    done

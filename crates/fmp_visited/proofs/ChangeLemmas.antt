-- The values of a group that differ, from one to the next, as the bits of its mask tell.
use Rattle.std.proofs.Common.{◌≡◌, ◌<◌, ◌≤◌, ◌+◌, ◌-◌, ◌*◌, ◌/◌, ◌%◌, ◌^◌, ℕ, zero, suc, Bool, true, false, cond}
use Rattle.std.proofs.Common.{nat_eq, List, [], ◌∷◌, ◌++◌, refl, sym, ap, ◌∙◌, subst, append_assoc, get_or, length}
use Rattle.std.proofs.Common.{take, drop, append-nil, arith, length-drop, zero-add}
use Rattle.std.proofs.lemmas.Bool.{eqb-true}
use Rattle.std.proofs.lemmas.List.{drop-drop, drop-set-lt, drop_all, get_or-drop, take-append-drop, take_all}
use Rattle.std.proofs.lemmas.List.{take_more, take_more_set}
use Rattle.std.proofs.lemmas.Nat.{shr-shr}
use lib.Count.{count_trailing_zeros, under}
use lib.ListN.{set}
use Rattle.fmp_visited.specs.Rows.{bytes_of, changes_of, mask_of}
use Rattle.fmp_visited.proofs.ReadingLemmas.{none-changes, none-differs}

-- ---- the first value that differs

record IsFirstChange (s : ℕ) (f v : List ℕ) : Type 0 where
  in_first : s < length f
  in_values : s < length v
  masks : mask_of f v / 2 ^ s / 2 ≡ mask_of (drop (suc s) f) (drop (suc s) v)
  changes : changes_of f v ≡ bytes_of (get_or v s 0) ++ changes_of (drop (suc s) f) (drop (suc s) v)
  same : take s v ≡ take s f

pub shifted : (n s : ℕ) → n / 2 ^ suc s ≡ n / 2 / 2 ^ s
shifted n s =
    let next : 1 + s ≡ suc s = omega arith in sym (shr-shr n 1 s ∙ ap (λ (k : ℕ). n / 2 ^ k) next)

first-here : (a b : ℕ) (f v : List ℕ) → nat_eq a b ≡ false → IsFirstChange zero (b ∷ f) (a ∷ v)
first-here a b f v e =
    let left : (1 + 2 * mask_of f v) / 1 / 2 ≡ mask_of f v = omega arith in
    record {
      in_first = omega arith;
      in_values = omega arith;
      masks = ap (λ (t : Bool). (cond t 0 1 + 2 * mask_of f v) / 2 ^ 0 / 2) e ∙ left;
      changes = ap (λ (t : Bool). cond t [] (bytes_of a) ++ changes_of f v) e;
      same = refl;
    }

first-behind : (s a b : ℕ) (f v : List ℕ) → nat_eq a b ≡ true → IsFirstChange s f v
    → IsFirstChange (suc s) (b ∷ f) (a ∷ v)
first-behind s a b f v e c =
    let m : ℕ = mask_of f v in
    let half : (0 + 2 * m) / 2 ≡ m = omega arith in
    let is : a ≡ b = eqb-true a b e in
    record {
      in_first = omega (arith, c.in_first);
      in_values = omega (arith, c.in_values);
      masks =
          ap (λ (t : Bool). (cond t 0 1 + 2 * m) / 2 ^ suc s / 2) e
          ∙ (ap (λ (n : ℕ). n / 2) (shifted (0 + 2 * m) s ∙ ap (λ (n : ℕ). n / 2 ^ s) half) ∙ c.masks);
      changes = ap (λ (t : Bool). cond t [] (bytes_of a) ++ changes_of f v) e ∙ c.changes;
      same = ap (λ (x : ℕ). x ∷ take s v) is ∙ ap (λ (xs : List ℕ). b ∷ xs) c.same;
    }

first-change : (w : ℕ) (f v : List ℕ) → length f ≤ w → 0 < mask_of f v
    → IsFirstChange (count_trailing_zeros w (mask_of f v)) f v
unfolding count_trailing_zeros
first-change w [] v le some = absurd (omega arith)
first-change w (b ∷ f) [] le some = absurd (omega arith)
first-change zero (b ∷ f) (a ∷ v) le some = absurd (omega arith)
first-change (suc w) (b ∷ f) (a ∷ v) le some =
    by_test (nat_eq a b) refl some (first-change w f v (omega arith)) where
      by_test : (t : Bool) → nat_eq a b ≡ t → 0 < cond t 0 1 + 2 * mask_of f v
          → (0 < mask_of f v → IsFirstChange (count_trailing_zeros w (mask_of f v)) f v)
          → IsFirstChange (under ((cond t 0 1 + 2 * mask_of f v) % 2)
          (count_trailing_zeros w ((cond t 0 1 + 2 * mask_of f v) / 2))) (b ∷ f) (a ∷ v)
      by_test true e some rest =
          let m : ℕ = mask_of f v in
          let even : (0 + 2 * m) % 2 ≡ 0 = omega arith in
          let half : (0 + 2 * m) / 2 ≡ m = omega arith in
          subst (λ (s : ℕ). IsFirstChange s (b ∷ f) (a ∷ v))
          (sym (ap (λ (r : ℕ). under r (count_trailing_zeros w ((0 + 2 * m) / 2))) even
          ∙ ap (λ (q : ℕ). suc (count_trailing_zeros w q)) half))
          (first-behind (count_trailing_zeros w m) a b f v e (rest (omega arith)))
      by_test false e some rest =
          let m : ℕ = mask_of f v in
          let odd : (1 + 2 * m) % 2 ≡ 1 = omega arith in
          subst (λ (s : ℕ). IsFirstChange s (b ∷ f) (a ∷ v))
          (sym (ap (λ (r : ℕ). under r (count_trailing_zeros w ((1 + 2 * m) / 2))) odd)) (first-here a b f v e)

-- ---- the next value that differs, from a place on

pub record IsNextChange (at s bits : ℕ) (f v : List ℕ) : Type 0 where
  pub in_first : at + s < length f
  pub in_values : at + s < length v
  pub masks : bits / 2 ^ s / 2 ≡ mask_of (drop (at + s + 1) f) (drop (at + s + 1) v)
  pub changes :
      changes_of (drop at f) (drop at v)
      ≡ bytes_of (get_or v (at + s) 0) ++ changes_of (drop (at + s + 1) f) (drop (at + s + 1) v)
  pub same : take s (drop at v) ≡ take s (drop at f)

behind : (at s : ℕ) (xs : List ℕ) → drop (suc s) (drop at xs) ≡ drop (at + s + 1) xs
behind at s xs =
    let next : at + suc s ≡ at + s + 1 = omega arith in
    drop-drop (suc s) at xs ∙ ap (λ (n : ℕ). drop n xs) next

pub next-change : (at s bits : ℕ) (f v : List ℕ) → length f ≤ 8 → bits ≡ mask_of (drop at f) (drop at v)
    → (bits ≡ 0 → ⊥) → s ≡ count_trailing_zeros 8 bits → IsNextChange at s bits f v
next-change at s bits f v few mask some zeros =
    let g : List ℕ = drop at f in
    let w : List ℕ = drop at v in
    let long : length g ≡ length f - at = length-drop at f in
    let much : length w ≡ length v - at = length-drop at v in
    let is : s ≡ count_trailing_zeros 8 (mask_of g w) = zeros ∙ ap (λ (n : ℕ). count_trailing_zeros 8 n) mask in
    let c : IsFirstChange s g w =
    subst (λ (k : ℕ). IsFirstChange k g w) (sym is) (first-change 8 g w (omega (arith, long, few))
    (by_some (mask_of g w) (λ none. some (mask ∙ none)))) in
    record {
      in_first = omega (arith, c.in_first, long);
      in_values = omega (arith, c.in_values, much);
      masks =
          ap (λ (n : ℕ). n / 2 ^ s / 2) mask
          ∙ (c.masks
          ∙ (ap (λ (xs : List ℕ). mask_of xs (drop (suc s) w)) (behind at s f)
          ∙ ap (λ (xs : List ℕ). mask_of (drop (at + s + 1) f) xs) (behind at s v)));
      changes =
          c.changes
          ∙ (ap (λ (n : ℕ). bytes_of n ++ changes_of (drop (suc s) g) (drop (suc s) w)) (get_or-drop at v s 0)
          ∙ (ap (λ (xs : List ℕ). bytes_of (get_or v (at + s) 0) ++ changes_of xs (drop (suc s) w)) (behind at s f)
          ∙ ap (λ (xs : List ℕ). bytes_of (get_or v (at + s) 0) ++ changes_of (drop (at + s + 1) f) xs)
          (behind at s v)));
      same = c.same;
    } where
      by_some : (n : ℕ) → (n ≡ 0 → ⊥) → 0 < n
      by_some zero some = absurd (some refl)
      by_some (suc n) some = omega arith

-- ---- what is pushed

pub pushed-next : (row new here rest before all : List ℕ) → new ≡ row ++ here → before ≡ here ++ rest
    → row ++ before ≡ all → new ++ rest ≡ all
pushed-next row new here rest before all e is done =
    ap (λ (bytes : List ℕ). bytes ++ rest) e
    ∙ (append_assoc row here rest ∙ (ap (λ (bytes : List ℕ). row ++ bytes) (sym is) ∙ done))

pub none-left : (at : ℕ) (f v : List ℕ) → length f ≤ at → mask_of (drop at f) (drop at v) ≡ 0
none-left at f v le = ap (λ (g : List ℕ). mask_of g (drop at v)) (drop_all at f le)

pub pushed-all : (row all : List ℕ) (at : ℕ) (f v : List ℕ) → mask_of (drop at f) (drop at v) ≡ 0
    → row ++ changes_of (drop at f) (drop at v) ≡ all → row ≡ all
pushed-all row all at f v none e =
    sym (ap (λ (bytes : List ℕ). row ++ bytes) (none-changes (drop at f) (drop at v) (sym none)) ∙ append-nil row) ∙ e

-- ---- what is unpacked

pub record IsUnpacking (row first v new : List ℕ) (k mask at : ℕ) (rest : List ℕ) : Type 0 where
  pub masks : mask ≡ mask_of (drop k first) (drop k v)
  pub bytes : drop at row ≡ changes_of (drop k first) (drop k v) ++ rest
  pub front : take k new ≡ take k v
  pub back : drop k new ≡ drop k first

take-both : (k s : ℕ) (xs : List ℕ) → take (k + s) xs ≡ take k xs ++ take s (drop k xs)
take-both zero s xs = ap (λ (n : ℕ). take n xs) (zero-add s)
take-both (suc k) s [] =
    let next : suc k + s ≡ suc (k + s) = omega arith in
    ap (λ (n : ℕ). take n []) next ∙ sym (take_all s [] (omega arith))
take-both (suc k) s (x ∷ xs) =
    let next : suc k + s ≡ suc (k + s) = omega arith in
    ap (λ (n : ℕ). take n (x ∷ xs)) next ∙ ap (λ (l : List ℕ). x ∷ l) (take-both k s xs)

pub unpacking-bytes : (row first v new : List ℕ) (k s mask at : ℕ) (rest : List ℕ) → IsNextChange k s mask first v
    → IsUnpacking row first v new k mask at rest
    → drop at row ≡ bytes_of (get_or v (k + s) 0)
    ++ (changes_of (drop (k + s + 1) first) (drop (k + s + 1) v) ++ rest)
unpacking-bytes row first v new k s mask at rest n u =
    u.bytes ∙ (ap (λ (b : List ℕ). b ++ rest) n.changes
    ∙ append_assoc (bytes_of (get_or v (k + s) 0)) (changes_of (drop (k + s + 1) first) (drop (k + s + 1) v)) rest)

pub unpacking-more : (row first v new : List ℕ) (k s mask at value place : ℕ) (rest : List ℕ)
    → length new ≡ length first → IsNextChange k s mask first v → IsUnpacking row first v new k mask at rest
    → value ≡ get_or v (k + s) 0
    → drop place row ≡ changes_of (drop (k + s + 1) first) (drop (k + s + 1) v) ++ rest
    → IsUnpacking row first v (set new (k + s) value) (k + s + 1) (mask / 2 ^ s / 2) place rest
unpacking-more row first v new k s mask at value place rest long n u is bytes =
    let j : ℕ = k + s in
    let rest_same : drop j new ≡ drop j first =
    sym (drop-drop s k new) ∙ (ap (λ (xs : List ℕ). drop s xs) u.back ∙ drop-drop s k first) in
    let skipped : take s (drop k new) ≡ take s (drop k v) = ap (λ (xs : List ℕ). take s xs) u.back ∙ sym n.same in
    let all : take j new ≡ take j v =
    take-both k s new
    ∙ (ap (λ (xs : List ℕ). xs ++ take s (drop k new)) u.front
    ∙ (ap (λ (xs : List ℕ). take k v ++ xs) skipped ∙ sym (take-both k s v))) in
    record {
      masks = n.masks;
      bytes = bytes;
      front =
          take_more_set new j value (omega (arith, long, n.in_first))
          ∙ (ap (λ (xs : List ℕ). xs ++ value ∷ []) all
          ∙ (ap (λ (x : ℕ). take j v ++ x ∷ []) is ∙ sym (take_more v j 0 n.in_values)));
      back =
          drop-set-lt (j + 1) new j value (omega arith)
          ∙ (sym (drop-drop 1 j new) ∙ (ap (λ (xs : List ℕ). drop 1 xs) rest_same ∙ drop-drop 1 j first));
    }

pub unpacking-end : (row first v new : List ℕ) (k mask at : ℕ) (rest : List ℕ) → length v ≡ length first
    → mask_of (drop k first) (drop k v) ≡ 0 → IsUnpacking row first v new k mask at rest
    → (new ≡ v) × (drop at row ≡ rest)
unpacking-end row first v new k mask at rest same none u =
    let one : length (drop k v) ≡ length v - k = length-drop k v in
    let other : length (drop k first) ≡ length first - k = length-drop k first in
    let left : drop k v ≡ drop k first = none-differs (drop k first) (drop k v) (omega (arith, one, other, same))
    (sym none) in (
      sym (take-append-drop k new)
          ∙ (ap (λ (xs : List ℕ). xs ++ drop k new) u.front
          ∙ (ap (λ (xs : List ℕ). take k v ++ xs) (u.back ∙ sym left) ∙ take-append-drop k v)),
      u.bytes ∙ ap (λ (b : List ℕ). b ++ rest) (none-changes (drop k first) (drop k v) (sym none)),
    )

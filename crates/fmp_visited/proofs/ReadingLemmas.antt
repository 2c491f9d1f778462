-- What is read from rows.
use Rattle.std.proofs.Common.{◌≡◌, ◌<◌, ◌≤◌, ◌+◌, ◌-◌, ◌*◌, ◌/◌, ◌%◌, ◌^◌, ℕ, zero, suc, Bool, true, false, cond}
use Rattle.std.proofs.Common.{nat_eq, List, [], ◌∷◌, ◌++◌, inl, inr, refl, sym, ap, ◌∙◌, append_assoc, append-nil}
use Rattle.std.proofs.Common.{add_assoc, add-zero, mul-add, mul-zero, mul-suc, mul_assoc, mul_comm, mul-le-mul_right}
use Rattle.std.proofs.Common.{div-add-mod', get_or, length, take, drop, arith, length-drop, lit≤, min}
use Rattle.std.proofs.lemmas.Bool.{cases_lt, eqb-true, eq-eqb}
use Rattle.std.proofs.lemmas.List.{drop-drop, drop_all, drop_at, drop_min, get_or-drop, length-append, length-take-le}
use Rattle.std.proofs.lemmas.List.{take_all, take_at, take_min}
use Rattle.fmp_visited.specs.Rows.{bytes_of, changes_of, group_at, groups_from, mask_of, number_in, row_of}
use Rattle.fmp_visited.proofs.NumberLemmas.{bytes-last, bytes-more}
use Rattle.fmp_visited.proofs.RowLemmas.{groups-more, length-group}

-- ---- the byte at a place

pub at-first : (row : List ℕ) (at x : ℕ) (rest : List ℕ) → drop at row ≡ x ∷ rest → get_or row at 0 ≡ x
at-first row at x rest e =
    let there : get_or (drop at row) 0 0 ≡ get_or row (at + 0) 0 = get_or-drop at row 0 0 in
    ap (λ (n : ℕ). get_or row n 0) (sym (add-zero at)) ∙ (sym there ∙ ap (λ (r : List ℕ). get_or r 0 0) e)

pub at-rest : (row : List ℕ) (at x : ℕ) (rest : List ℕ) → drop at row ≡ x ∷ rest → drop (at + 1) row ≡ rest
at-rest row at x rest e = sym (drop-drop 1 at row) ∙ ap (λ (r : List ℕ). drop 1 r) e

-- no byte stands behind the last
pub at-none : (row : List ℕ) (at x : ℕ) (rest : List ℕ) → length row ≤ at → drop at row ≡ x ∷ rest → ⊥
at-none row at x rest past e = let clash : [] ≡ x ∷ rest = sym (drop_all at row past) ∙ e in cc

-- ---- a number

-- a number of which this much was read, so many bytes
pub record IsReading (row : List ℕ) (count number unit at n : ℕ) (rest : List ℕ) : Type 0 where
  pub left : ℕ
  pub value : n ≡ number + unit * left
  pub bytes : drop at row ≡ number_in (5 - count) left ++ rest

pub reading-begun : (row : List ℕ) (at n : ℕ) (rest : List ℕ) → drop at row ≡ bytes_of n ++ rest
    → IsReading row 0 0 1 at n rest
unfolding bytes_of
reading-begun row at n rest e = record { left = n; value = omega arith; bytes = e }

first-last : (count left : ℕ) (rest : List ℕ) → count < 5 → left < 128 → number_in (5 - count) left ++ rest ≡ left
    ∷ rest
first-last count left rest lt small = ap (λ (b : List ℕ). b ++ rest) (bytes-last count left lt small)

first-more : (count left : ℕ) (rest : List ℕ) → count < 5 → 128 ≤ left
    → number_in (5 - count) left ++ rest ≡ (left % 128 + 128) ∷ (number_in (5 - (count + 1)) (left / 128) ++ rest)
first-more count left rest lt great = ap (λ (b : List ℕ). b ++ rest) (bytes-more count left lt great)

-- a byte stands there
pub reading-there : (row : List ℕ) (count number unit at n : ℕ) (rest : List ℕ) → count < 5 → length row ≤ at
    → IsReading row count number unit at n rest → ⊥
reading-there row count number unit at n rest lt past r =
    elim (cases_lt r.left 128) [
      | inl small ↦ at-none row at r.left rest past (r.bytes ∙ first-last count r.left rest lt small)
      | inr great ↦
          at-none row at (r.left % 128 + 128) (number_in (5 - (count + 1)) (r.left / 128) ++ rest) past
          (r.bytes ∙ first-more count r.left rest lt great)
    ]

-- unit * (q * 128 + d) is d * unit and unit * 128 * q
spread : (unit q d : ℕ) → unit * (q * 128 + d) ≡ d * unit + unit * 128 * q
spread unit q d =
    let first : unit * (q * 128) ≡ unit * 128 * q = ap (λ (n : ℕ). unit * n) (mul_comm q 128)
    ∙ sym (mul_assoc unit 128 q) in
    let second : unit * d ≡ d * unit = mul_comm unit d in
    mul-add unit (q * 128) d ∙ omega (arith, first, second)

-- one more byte, which is not the last
pub reading-more : (row : List ℕ) (count number unit at n : ℕ) (rest : List ℕ) → count < 5 → 128 ≤ get_or row at 0
    → IsReading row count number unit at n rest
    → IsReading row (count + 1) (number + get_or row at 0 % 128 * unit) (unit * 128) (at + 1) n rest
reading-more row count number unit at n rest lt high r =
    elim (cases_lt r.left 128) [
      | inl small ↦
          let here : get_or row at 0 ≡ r.left = at-first row at r.left rest
          (r.bytes ∙ first-last count r.left rest lt small) in
          absurd (omega (arith, here, small, high))
      | inr great ↦
          let q : ℕ = r.left / 128 in
          let d : ℕ = r.left % 128 in
          let tail : List ℕ = number_in (5 - (count + 1)) q ++ rest in
          let bytes : drop at row ≡ (d + 128) ∷ tail = r.bytes ∙ first-more count r.left rest lt great in
          let here : get_or row at 0 ≡ d + 128 = at-first row at (d + 128) tail bytes in
          let digit : get_or row at 0 % 128 ≡ d = omega (arith, here) in
          let whole : r.left ≡ q * 128 + d = sym (div-add-mod' r.left 128) in
          record {
            left = q;
            value =
                r.value ∙ (ap (λ (m : ℕ). number + unit * m) whole
                ∙ (ap (λ (m : ℕ). number + m) (spread unit q d)
                ∙ (sym (add_assoc number (d * unit) (unit * 128 * q))
                ∙ ap (λ (m : ℕ). number + m * unit + unit * 128 * q) (sym digit))));
            bytes = at-rest row at (d + 128) tail bytes;
          }
    ]

-- the last byte
pub reading-last : (row : List ℕ) (count number unit at n : ℕ) (rest : List ℕ) → count < 5 → get_or row at 0 < 128
    → IsReading row count number unit at n rest
    → (number + get_or row at 0 % 128 * unit ≡ n) × (drop (at + 1) row ≡ rest)
reading-last row count number unit at n rest lt low r =
    elim (cases_lt r.left 128) [
      | inl small ↦
          let bytes : drop at row ≡ r.left ∷ rest = r.bytes ∙ first-last count r.left rest lt small in
          let here : get_or row at 0 ≡ r.left = at-first row at r.left rest bytes in
          let digit : get_or row at 0 % 128 ≡ r.left = omega (arith, here, small) in (
            ap (λ (m : ℕ). number + m * unit) digit ∙ (ap (λ (m : ℕ). number + m) (mul_comm r.left unit) ∙ sym r.value),
            at-rest row at r.left rest bytes,
          )
      | inr great ↦
          let here : get_or row at 0 ≡ r.left % 128 + 128 =
          at-first row at (r.left % 128 + 128) (number_in (5 - (count + 1)) (r.left / 128) ++ rest)
          (r.bytes ∙ first-more count r.left rest lt great) in
          absurd (omega (arith, here, low))
    ]

none_left : (unit left n : ℕ) → n < unit → unit * left ≤ n → left ≡ 0
none_left unit zero n lt le = refl
none_left unit (suc left) n lt le = absurd (omega (arith, lt, le, mul-suc unit left))

-- as many bytes as there may be
pub reading-end : (row : List ℕ) (count number unit at n : ℕ) (rest : List ℕ) → count ≡ 5 → unit ≡ 128 ^ count
    → n < 2 ^ 32
    → IsReading row count number unit at n rest → (number ≡ n) × (drop at row ≡ rest)
reading-end row count number unit at n rest five power small r =
    let great : unit ≡ 128 ^ 5 = power ∙ ap (λ (k : ℕ). 128 ^ k) five in
    let within : unit * r.left ≤ n = omega (arith, r.value) in
    let none : r.left ≡ 0 = none_left unit r.left n (omega (arith, great, small)) within in
    let value : n ≡ number + 0 = r.value ∙ (ap (λ (m : ℕ). number + unit * m) none
    ∙ ap (λ (m : ℕ). number + m) (mul-zero unit)) in
    (omega (arith, value), r.bytes ∙ ap (λ (k : ℕ). number_in (5 - k) r.left ++ rest) five)

-- what was read fits
pub read-fits : (count number unit byte : ℕ) → unit ≡ 128 ^ count → number < unit → number
    + byte % 128 * unit < unit * 128
read-fits count number unit byte power small =
    let times : byte % 128 * unit ≤ 127 * unit = mul-le-mul_right unit (omega arith) in
    omega (arith, times, small)

-- ---- groups

pub take-group : (s : ℕ) (v : List ℕ) → take (s + 8) v ≡ take s v ++ group_at s v
unfolding group_at
take-group zero v = refl
take-group (suc s) [] = let next : suc s + 8 ≡ suc (s + 8) = omega arith in ap (λ (n : ℕ). take n []) next
take-group (suc s) (a ∷ v) =
    let next : suc s + 8 ≡ suc (s + 8) = omega arith in
    ap (λ (n : ℕ). take n (a ∷ v)) next ∙ ap (λ (xs : List ℕ). a ∷ xs) (take-group s v)

pub record AreUnpacked (row first v new : List ℕ) (group at : ℕ) : Type 0 where
  pub values : new ≡ take (group * 8) v ++ drop (group * 8) first
  pub bytes : drop at row ≡ groups_from (length first / 8 + 1 - group) (group * 8) first v

pub unpack-begun : (row first v new : List ℕ) → new ≡ first → row ≡ row_of first v → AreUnpacked row first v new 0 0
unfolding row_of
unpack-begun row first v new e told =
    let all : length first / 8 + 1 ≡ length first / 8 + 1 - 0 = omega arith in
    record { values = e; bytes = told ∙ ap (λ (n : ℕ). groups_from n 0 first v) all }

pub unpack-there : (row first v new : List ℕ) (group at : ℕ) → group < length first / 8 + 1 → length row ≤ at
    → AreUnpacked row first v new group at → ⊥
unpack-there row first v new group at lt past u =
    let s : ℕ = group * 8 in
    at-none row at (mask_of (group_at s first) (group_at s v))
    (changes_of (group_at s first) (group_at s v) ++ groups_from (length first / 8 + 1 - (group + 1))
    ((group + 1) * 8) first v)
    past (u.bytes ∙ groups-more (length first / 8 + 1) group first v lt)

pub unpack-end : (row first v new : List ℕ) (group at : ℕ) → length v ≡ length first → length first / 8 + 1 ≤ group
    → AreUnpacked row first v new group at → new ≡ v
unpack-end row first v new group at same le u =
    u.values
    ∙ (ap (λ (xs : List ℕ). take (group * 8) v ++ xs) (drop_all (group * 8) first (omega arith))
    ∙ (append-nil (take (group * 8) v) ∙ take_all (group * 8) v (omega arith)))

-- the values before a group and those from it on
unpacked-parts : (s : ℕ) (first v new : List ℕ) → s ≤ length v → new ≡ take s v ++ drop s first
    → (take s new ≡ take s v) × (drop s new ≡ drop s first)
unpacked-parts s first v new le e =
    let long : length (take s v) ≡ s = length-take-le s v le in (
      ap (λ (xs : List ℕ). take s xs) e ∙ take_at (take s v) (drop s first) s long,
      ap (λ (xs : List ℕ). drop s xs) e ∙ drop_at (take s v) (drop s first) s long,
    )

-- the values of a group, which are the first ones
pub part-told : (row first v new : List ℕ) (group at count : ℕ) → group * 8 ≤ length v
    → count ≡ min 8 (length new - group * 8) → AreUnpacked row first v new group at
    → take count (drop (group * 8) new) ≡ group_at (group * 8) first
unfolding group_at
part-told row first v new group at count le e u =
    let s : ℕ = group * 8 in
    let few : count ≡ min 8 (length (drop s new)) = e ∙ ap (λ (n : ℕ). min 8 n) (sym (length-drop s new)) in
    ap (λ (n : ℕ). take n (drop s new)) few
    ∙ (take_min 8 (drop s new)
    ∙ ap (λ (xs : List ℕ). take 8 xs) (unpacked-parts s first v new le u.values).1)

pub power-small : (k : ℕ) → k < 5 → 128 ^ k ≤ 268435456
power-small zero lt = lit≤ tt
power-small (suc zero) lt = lit≤ tt
power-small (suc (suc zero)) lt = lit≤ tt
power-small (suc (suc (suc zero))) lt = lit≤ tt
power-small (suc (suc (suc (suc zero)))) lt = lit≤ tt
power-small (suc (suc (suc (suc (suc k))))) lt = absurd (omega arith)

-- what stands where a group begins
pub unpack-group : (row first v new fields : List ℕ) (group at : ℕ) → group < length first / 8 + 1 → fields
    ≡ group_at (group * 8) first
    → AreUnpacked row first v new group at
    → (get_or row at 0 ≡ mask_of fields (group_at (group * 8) v))
    × (drop (at + 1) row
    ≡ changes_of fields (group_at (group * 8) v)
    ++ groups_from (length first / 8 + 1 - (group + 1)) ((group + 1) * 8) first v)
unpack-group row first v new fields group at lt e u =
    let s : ℕ = group * 8 in
    let rest : List ℕ = groups_from (length first / 8 + 1 - (group + 1)) ((group + 1) * 8) first v in
    let told : drop at row ≡ mask_of fields (group_at s v) ∷ (changes_of fields (group_at s v) ++ rest) =
    u.bytes ∙ (groups-more (length first / 8 + 1) group first v lt
    ∙ ap (λ (f : List ℕ). mask_of f (group_at s v) ∷ (changes_of f (group_at s v) ++ rest)) (sym e)) in (
      at-first row at (mask_of fields (group_at s v)) (changes_of fields (group_at s v) ++ rest) told,
      at-rest row at (mask_of fields (group_at s v)) (changes_of fields (group_at s v) ++ rest) told,
    )

pub unpack-more : (row first v new part : List ℕ) (group at behind count : ℕ) → group * 8 ≤ length v
    → count ≡ min 8 (length new - group * 8) → AreUnpacked row first v new group at
    → part ≡ group_at (group * 8) v
    → drop behind row ≡ groups_from (length first / 8 + 1 - (group + 1)) ((group + 1) * 8) first v
    → AreUnpacked row first v (take (group * 8) new ++ (part ++ drop count (drop (group * 8) new))) (group + 1) behind
unpack-more row first v new part group at behind count le e u is bytes =
    let s : ℕ = group * 8 in
    let next : s + 8 ≡ (group + 1) * 8 = omega arith in
    let parts = unpacked-parts s first v new le u.values in
    let few : count ≡ min 8 (length (drop s new)) = e ∙ ap (λ (n : ℕ). min 8 n) (sym (length-drop s new)) in
    let left : drop count (drop s new) ≡ drop (s + 8) first =
    ap (λ (n : ℕ). drop n (drop s new)) few
    ∙ (drop_min 8 (drop s new) ∙ (ap (λ (xs : List ℕ). drop 8 xs) parts.1 ∙ drop-drop 8 s first)) in
    record {
      values =
          ap (λ (xs : List ℕ). xs ++ (part ++ drop count (drop s new))) parts.0
          ∙ (ap (λ (xs : List ℕ). take s v ++ (xs ++ drop count (drop s new))) is
          ∙ (ap (λ (xs : List ℕ). take s v ++ (group_at s v ++ xs)) left
          ∙ (sym (append_assoc (take s v) (group_at s v) (drop (s + 8) first))
          ∙ (ap (λ (xs : List ℕ). xs ++ drop (s + 8) first) (sym (take-group s v))
          ∙ ap (λ (n : ℕ). take n v ++ drop n first) next))));
      bytes = bytes;
    }

pub part-length : (xs part : List ℕ) (s k : ℕ) → s + k ≤ length xs → length part ≡ length (take k (drop s xs))
    → length (take s xs ++ (part ++ drop k (drop s xs))) ≡ length xs
part-length xs part s k le e =
    let one = length-append (take s xs) (part ++ drop k (drop s xs)) in
    let two = length-append part (drop k (drop s xs)) in
    let front : length (take s xs) ≡ s = length-take-le s xs (omega arith) in
    let back : length (drop s xs) ≡ length xs - s = length-drop s xs in
    let middle : length (take k (drop s xs)) ≡ k = length-take-le k (drop s xs) (omega (arith, back, le)) in
    let last : length (drop k (drop s xs)) ≡ length (drop s xs) - k = length-drop k (drop s xs) in
    omega (arith, one, two, front, back, middle, last, e, le)

pub length-fields : (s : ℕ) (first v fields : List ℕ) → length v ≡ length first → fields ≡ group_at s first
    → length (group_at s v) ≡ length fields
length-fields s first v fields same e =
    let one : length (group_at s v) ≡ min 8 (length v - s) = length-group s v in
    let other : length (group_at s first) ≡ min 8 (length first - s) = length-group s first in
    let size : length fields ≡ length (group_at s first) = ap (λ (f : List ℕ). length f) e in
    omega (arith, one, other, size, same)

-- a number of one byte
pub number_small : (row : List ℕ) (place n : ℕ) (rest : List ℕ) → get_or row place 0 < 128
    → drop place row ≡ bytes_of n ++ rest → (get_or row place 0 ≡ n) × (drop (place + 1) row ≡ rest)
number_small row place n rest low e =
    let got = reading-last row 0 0 1 place n rest (omega arith) low (reading-begun row place n rest e) in
    (omega (arith, got.0, low), got.1)

-- ---- a group in which nothing differs

mask-first : (v w : ℕ) (rest : ℕ) → cond (nat_eq v w) 0 1 + 2 * rest ≡ 0 → (v ≡ w) × (rest ≡ 0)
mask-first v w rest e = by_test (nat_eq v w) refl e where
  by_test : (s : Bool) → nat_eq v w ≡ s → cond s 0 1 + 2 * rest ≡ 0 → (v ≡ w) × (rest ≡ 0)
  by_test true s none = (eqb-true v w s, omega arith)
  by_test false s none = absurd (omega arith)

pub none-differs : (f v : List ℕ) → length v ≡ length f → 0 ≡ mask_of f v → v ≡ f
none-differs [] [] long none = refl
none-differs [] (a ∷ v) long none = absurd cc
none-differs (b ∷ f) [] long none = absurd cc
none-differs (b ∷ f) (a ∷ v) long none =
    let both = mask-first a b (mask_of f v) (sym none) in
    let head : a ≡ b = both.0 in
    let tail : v ≡ f = none-differs f v (omega arith) (sym both.1) in
    cc

pub none-changes : (f v : List ℕ) → 0 ≡ mask_of f v → changes_of f v ≡ []
none-changes [] v none = refl
none-changes (b ∷ f) [] none = refl
none-changes (b ∷ f) (a ∷ v) none =
    let both = mask-first a b (mask_of f v) (sym none) in
    ap (λ (s : Bool). cond s [] (bytes_of a) ++ changes_of f v) (eq-eqb a b both.0)
    ∙ none-changes f v (sym both.1)

-- Locals that agree where they are live.
use Rattle.std.proofs.Common.{◌≡◌, ◌≢◌, ℕ, zero, suc, ℤ, pos, Bool, true, false, List, [], ◌∷◌, length, get_or}
use Rattle.std.proofs.Common.{slice_set, refl, sym, ◌∙◌, ap, arith}
use Rattle.std.proofs.lemmas.List.{ext_get_or, length-set}
use Rattle.fmp_live.specs.Zeroed.{if_live, zeroed_by}

-- as many locals, and the live ones are the same
pub record Agree (live : ℕ → Bool) (xs ys : List ℤ) : Type 0 where
  pub long : length xs ≡ length ys
  pub each : (v : ℕ) → live v ≡ true → get_or xs v (pos 0) ≡ get_or ys v (pos 0)

pub agree-refl : (live : ℕ → Bool) (xs : List ℤ) → Agree live xs xs
agree-refl live xs = record { long = refl; each = λ v l. refl }

pub agree-sym : (live : ℕ → Bool) (xs ys : List ℤ) → Agree live xs ys → Agree live ys xs
agree-sym live xs ys a = record { long = sym a.long; each = λ v l. sym (a.each v l) }

-- so it is where fewer are live
pub agree-less : (live fewer : ℕ → Bool) (xs ys : List ℤ) → ((v : ℕ) → fewer v ≡ true → live v ≡ true)
    → Agree live xs ys → Agree fewer xs ys
agree-less live fewer xs ys h a = record { long = a.long; each = λ v l. a.each v (h v l) }

same_set : (xs ys : List ℤ) (v u : ℕ) (x : ℤ) → length xs ≡ length ys
    → (u ≢ v → get_or xs u (pos 0) ≡ get_or ys u (pos 0))
    → get_or (slice_set xs v x) u (pos 0) ≡ get_or (slice_set ys v x) u (pos 0)
same_set [] [] v u x l h = refl
same_set [] (b ∷ ys) v u x l h = absurd (omega (arith, l))
same_set (a ∷ xs) [] v u x l h = absurd (omega (arith, l))
same_set (a ∷ xs) (b ∷ ys) zero zero x l h = refl
same_set (a ∷ xs) (b ∷ ys) zero (suc u) x l h = h (λ e. omega (arith, e))
same_set (a ∷ xs) (b ∷ ys) (suc v) zero x l h = h (λ e. omega (arith, e))
same_set (a ∷ xs) (b ∷ ys) (suc v) (suc u) x l h =
    same_set xs ys v u x (omega (arith, l)) (λ ne. h (λ e. ne (omega (arith, e))))

-- a local that is written need not agree before
pub agree-set : (live after : ℕ → Bool) (xs ys : List ℤ) (v : ℕ) (x : ℤ)
    → ((u : ℕ) → after u ≡ true → u ≢ v → live u ≡ true)
    → Agree live xs ys → Agree after (slice_set xs v x) (slice_set ys v x)
agree-set live after xs ys v x h a =
    record {
      long = length-set xs v x ∙ a.long ∙ sym (length-set ys v x);
      each = λ u l. same_set xs ys v u x a.long (λ ne. a.each u (h u l ne));
    }

if_live-zero : (b : Bool) → if_live b (pos 0) ≡ pos 0
if_live-zero true = refl
if_live-zero false = refl

if_live-same : (b : Bool) (x y : ℤ) → (b ≡ true → x ≡ y) → if_live b x ≡ if_live b y
if_live-same true x y h = h refl
if_live-same false x y h = refl

same-if_live : (b : Bool) (x y : ℤ) → b ≡ true → if_live b x ≡ if_live b y → x ≡ y
same-if_live true x y l h = h
same-if_live false x y l h = cc

pub length-zeroed : (row : List Bool) (xs : List ℤ) → length (zeroed_by row xs) ≡ length xs
length-zeroed [] xs = refl
length-zeroed (l ∷ row) [] = refl
length-zeroed (l ∷ row) (x ∷ xs) = ap suc (length-zeroed row xs)

pub get_or-zeroed : (row : List Bool) (xs : List ℤ) (v : ℕ)
    → get_or (zeroed_by row xs) v (pos 0) ≡ if_live (get_or row v true) (get_or xs v (pos 0))
get_or-zeroed [] xs v = refl
get_or-zeroed (l ∷ row) [] v = sym (if_live-zero (get_or (l ∷ row) v true))
get_or-zeroed (l ∷ row) (x ∷ xs) zero = refl
get_or-zeroed (l ∷ row) (x ∷ xs) (suc v) = get_or-zeroed row xs v

abbrev pub in_row : List Bool → ℕ → Bool
in_row row v = get_or row v true

-- locals agree where they are the same once the dead ones are 0, and only there
pub zeroed-agree : (row : List Bool) (xs ys : List ℤ) → Agree (in_row row) xs ys → zeroed_by row xs ≡ zeroed_by row ys
zeroed-agree row xs ys a =
    ext_get_or (pos 0) (zeroed_by row xs) (zeroed_by row ys)
    (length-zeroed row xs ∙ a.long ∙ sym (length-zeroed row ys))
    (λ i below.
    get_or-zeroed row xs i ∙ if_live-same (get_or row i true) (get_or xs i (pos 0)) (get_or ys i (pos 0)) (a.each i)
    ∙ sym (get_or-zeroed row ys i))

-- locals agree with what they are once the dead ones are 0
pub agree-zeroed : (row : List Bool) (xs : List ℤ) → Agree (in_row row) xs (zeroed_by row xs)
agree-zeroed row xs =
    record {
      long = sym (length-zeroed row xs);
      each = λ v l.
          ap (λ (b : Bool). if_live b (get_or xs v (pos 0))) (sym l) ∙ sym (get_or-zeroed row xs v);
    }

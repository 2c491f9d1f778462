-- Lists of monitors and of what came, from a place on.
use Rattle.std.proofs.Common.{◌≡◌, ℕ, suc, zero, min, ◌+◌, ◌<◌, ◌≤◌, List, [], ◌∷◌, length, drop, get_or}
use Rattle.std.proofs.Common.{Bool, false, ◌||◌, refl, ap, ◌∙◌, arith}
use Rattle.fmp_schedules.specs.declared.monitor.Monitor.{Monitor}
use Rattle.fmp_searching.specs.Unsaid.{is_one_unsaid, is_unsaid}

next : (i : ℕ) → suc (i + 1) ≡ suc i + 1
next i = omega arith

pub one_unsaid_at : (ms : List Monitor) (bs : List Bool) (i : ℕ) (m : Monitor) (b : Bool)
    → i < length ms → i < length bs
    → is_one_unsaid (drop i ms) (drop i bs)
    ≡ is_unsaid (get_or ms i m).subject (get_or bs i b) || is_one_unsaid (drop (i + 1) ms) (drop (i + 1) bs)
one_unsaid_at [] bs i m b h k = absurd (omega arith)
one_unsaid_at (x ∷ xs) [] i m b h k = absurd (omega arith)
one_unsaid_at (x ∷ xs) (y ∷ ys) zero m b h k = refl
one_unsaid_at (x ∷ xs) (y ∷ ys) (suc i) m b h k =
    one_unsaid_at xs ys i m b (omega arith) (omega arith)
    ∙ ap
    (λ n. is_unsaid (get_or xs i m).subject (get_or ys i b) || is_one_unsaid (drop n (x ∷ xs)) (drop n (y ∷ ys)))
    (next i)

pub one_unsaid_end : (ms : List Monitor) (bs : List Bool) (i : ℕ) → min (length ms) (length bs) ≤ i
    → is_one_unsaid (drop i ms) (drop i bs) ≡ false
one_unsaid_end [] bs zero h = refl
one_unsaid_end [] bs (suc i) h = refl
one_unsaid_end (x ∷ xs) [] zero h = refl
one_unsaid_end (x ∷ xs) [] (suc i) h = past (drop i xs)
  where
    past : (ms : List Monitor) → is_one_unsaid ms [] ≡ false
    past [] = refl
    past (m ∷ ms) = refl
one_unsaid_end (x ∷ xs) (y ∷ ys) zero h = absurd (omega arith)
one_unsaid_end (x ∷ xs) (y ∷ ys) (suc i) h = one_unsaid_end xs ys i (omega arith)

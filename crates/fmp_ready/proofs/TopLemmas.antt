-- The first queue that is not empty, by its bit.
use Rattle.std.proofs.Common.{◌≡◌, ℕ, zero, suc, ◌+◌, ◌-◌, ◌*◌, ◌<◌, List, [], ◌∷◌, Option, None, length, refl, ap, ◌∙◌}
use Rattle.std.proofs.Common.{sym, arith}
use Rattle.std.specs.Prelude.{slice_index_or}
use Rattle.std.specs.Int.{bit_at}
use Rattle.fmp_base.specs.Queues.{first_of}
use Rattle.fmp_ring.specs.RingLists.{RingLists, list_at}
use Rattle.fmp_ready.specs.ReadyLists.{AreExact, bit_for, first_from, first_or, most_urgent, queue_at}

or_empty : (l : List ℕ) (o : Option ℕ) → bit_for l ≡ 0 → first_or l o ≡ o
or_empty [] o e = refl
or_empty (t ∷ ts) o e = cc

or_some : (l : List ℕ) (o : Option ℕ) → bit_for l ≡ 1 → first_or l o ≡ first_of l
or_some [] o e = cc
or_some (t ∷ ts) o e = refl

first_from-none : (queue : ℕ → List ℕ) (from n : ℕ) → ((i : ℕ) → i < n → bit_for (queue (from + i)) ≡ 0)
    → first_from queue from n ≡ None
first_from-none queue from zero empty = refl
first_from-none queue from (suc n) empty =
    let e : from + 0 ≡ from = omega arith in
    or_empty (queue from) _ (rw e at (empty 0 (omega arith)))
    ∙ first_from-none queue (from + 1) n (λ i l. shifted i (empty (suc i) (omega arith))) where
      shifted : (i : ℕ) → bit_for (queue (from + suc i)) ≡ 0 → bit_for (queue (from + 1 + i)) ≡ 0
      shifted i h = let e : from + suc i ≡ from + 1 + i = omega arith in rw e at h

first_from-at : (queue : ℕ → List ℕ) (from n k : ℕ) → k < n → ((i : ℕ) → i < k → bit_for (queue (from + i)) ≡ 0)
    → bit_for (queue (from + k)) ≡ 1
    → first_from queue from n ≡ first_of (queue (from + k))
first_from-at queue from zero k l empty full = absurd (omega arith)
first_from-at queue from (suc n) zero l empty full =
    let e : from + 0 ≡ from = omega arith in
    or_some (queue from) _ (rw e at full) ∙ ap (λ (i : ℕ). first_of (queue i)) (sym e)
first_from-at queue from (suc n) (suc k) l empty full =
    let e : from + 0 ≡ from = omega arith in
    let d : from + suc k ≡ from + 1 + k = omega arith in
    or_empty (queue from) _ (rw e at (empty 0 (omega arith)))
    ∙ (first_from-at queue (from + 1) n k (omega arith) (λ i m. shifted i (empty (suc i) (omega arith))) (rw d at full)
    ∙ ap (λ (i : ℕ). first_of (queue i)) (sym d)) where
      shifted : (i : ℕ) → bit_for (queue (from + suc i)) ≡ 0 → bit_for (queue (from + 1 + i)) ≡ 0
      shifted i h = let e : from + suc i ≡ from + 1 + i = omega arith in rw e at h

bit_of : (bitmaps : List ℕ) (r : RingLists) (p i : ℕ) → AreExact bitmaps r → p < length bitmaps → i < 16
    → bit_for (queue_at r p (1 + i)) ≡ bit_at (slice_index_or bitmaps p 0) i
bit_of bitmaps r p i exact there low =
    let e : p * 16 + (1 + i - 1) ≡ p * 16 + i = omega arith in
    rw e (sym (exact.bits p i there low))

-- the queue at the lowest bit
pub top-some : (bitmaps : List ℕ) (r : RingLists) (p k : ℕ) → AreExact bitmaps r → p < length bitmaps → k < 16
    → bit_at (slice_index_or bitmaps p 0) k ≡ 1 → ((i : ℕ) → i < k → bit_at (slice_index_or bitmaps p 0) i ≡ 0)
    → first_of (list_at r.lists (p * 16 + k)) ≡ most_urgent r p
unfolding most_urgent
top-some bitmaps r p k exact there low set clear =
    let e : p * 16 + (1 + k - 1) ≡ p * 16 + k = omega arith in
    ap (λ (i : ℕ). first_of (list_at r.lists i)) (sym e)
    ∙ sym (first_from-at (queue_at r p) 1 16 k low (λ i l. bit_of bitmaps r p i exact there (omega arith) ∙ clear i l)
    (bit_of bitmaps r p k exact there low ∙ set))

pub top-none : (bitmaps : List ℕ) (r : RingLists) (p : ℕ) → AreExact bitmaps r → p < length bitmaps
    → ((i : ℕ) → bit_at (slice_index_or bitmaps p 0) i ≡ 0) → None ≡ most_urgent r p
unfolding most_urgent
top-none bitmaps r p exact there clear =
    sym (first_from-none (queue_at r p) 1 16 (λ i l. bit_of bitmaps r p i exact there l ∙ clear i))

-- No data queue holds more words than its capacity: how this comes through sending, forcing and receiving.
use Rattle.std.proofs.Common.{◌≡◌, ◌≤◌, ◌+◌, ℕ, zero, suc, ℤ, List, [], ◌∷◌, ◌++◌, true, false, refl, subst, arith}
use Rattle.std.proofs.Common.{length, get_or, nat_eq, slice_set, replicate}
use Rattle.std.proofs.lemmas.Bool.Decides.{nat_tests}
use Rattle.std.proofs.lemmas.List.{length-append}
use Rattle.fmp_base.specs.DataQueueCalls.{has_room, without_oldest, words_at}
use Rattle.fmp_base.specs.States.{KernelState}
use Rattle.fmp_base.specs.Systems.{SystemTables, data_queue_config}
use Rattle.fmp_reachable.specs.Sizes.{AreWithinCapacity}

-- one queue changes, and stays within its own bound
set-within : (most : ℕ → ℕ) (queues : List (List ℤ)) (d : ℕ) (ws : List ℤ) → length ws ≤ most d
    → ((e : ℕ) → length (get_or queues e []) ≤ most e) → (e : ℕ) → length (get_or (slice_set queues d ws) e []) ≤ most e
set-within most [] d ws l h e = h e
set-within most (q ∷ qs) zero ws l h zero = l
set-within most (q ∷ qs) zero ws l h (suc e) = h (suc e)
set-within most (q ∷ qs) (suc d) ws l h zero = h zero
set-within most (q ∷ qs) (suc d) ws l h (suc e) =
    set-within (λ i. most (suc i)) qs d ws l (λ i. h (suc i)) e

pub within-set : (sys : SystemTables) (queues : List (List ℤ)) (d : ℕ) (ws : List ℤ) → AreWithinCapacity sys queues
    → length ws ≤ (data_queue_config sys d).capacity → AreWithinCapacity sys (slice_set queues d ws)
within-set sys queues d ws h l = set-within (λ e. (data_queue_config sys e).capacity) queues d ws l h

empty-at : (n d : ℕ) → length (get_or (replicate {A = List ℤ} n []) d []) ≡ 0
empty-at zero d = refl
empty-at (suc n) zero = refl
empty-at (suc n) (suc d) = empty-at n d

pub within-empty : (sys : SystemTables) (n : ℕ) → AreWithinCapacity sys (replicate n [])
within-empty sys n d = let e = empty-at n d in omega (arith, e)

one-more : (words : List ℤ) (w : ℤ) → length (words ++ w ∷ []) ≡ length words + 1
one-more words w = length-append words (w ∷ [])

-- a queue with room takes one more
pub room-for : (sys : SystemTables) (s : KernelState) (d : ℕ) (w : ℤ) → has_room sys s d ≡ true
    → length (words_at s d ++ w ∷ []) ≤ (data_queue_config sys d).capacity
room-for sys s d w e = let more = one-more (words_at s d) w in grind (arith, nat_tests, e, more)

-- a word takes the place of the oldest one
pub room-forced : (words : List ℤ) (w : ℤ) (most : ℕ) → nat_eq most 0 ≡ false → length words ≤ most
    → length (without_oldest words ++ w ∷ []) ≤ most
room-forced [] w most some h = grind (arith, nat_tests, some)
room-forced (old ∷ words) w most some h = let more = one-more words w in omega (arith, h, more)

-- the oldest word is taken
pub room-taken : (words : List ℤ) (w : ℤ) (ws : List ℤ) (most : ℕ) → words ≡ w ∷ ws → length words ≤ most
    → length ws ≤ most
room-taken words w ws most e h =
    let k : length (w ∷ ws) ≤ most = subst (λ (l : List ℤ). length l ≤ most) e h in omega (arith, k)

-- and a sender's takes its place
pub room-refilled : (words : List ℤ) (w v : ℤ) (ws : List ℤ) (most : ℕ) → words ≡ w ∷ ws → length words ≤ most
    → length (ws ++ v ∷ []) ≤ most
room-refilled words w v ws most e h =
    let k : length (w ∷ ws) ≤ most = subst (λ (l : List ℤ). length l ≤ most) e h in
    let more = one-more ws v in omega (arith, k, more)

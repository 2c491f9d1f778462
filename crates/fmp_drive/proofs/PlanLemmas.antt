-- Whether one of the first tasks is of a kind, task by task.
use Rattle.std.proofs.Common.{◌≡◌, ℕ, zero, suc, ◌+◌, ◌<◌, ◌||◌, Bool, true, false, arith, refl, ap, ◌∙◌}
use Rattle.std.specs.List.{list_any, range_with_len}

either : (a b : Bool) → (a || b) ≡ false → (a ≡ false) × (b ≡ false)
either false b e = (refl, e)
either true b e = absurd (cc e)

neither : (a b : Bool) → a ≡ false → b ≡ false → (a || b) ≡ false
neither a b e f = rw e f

one_is : (a b : Bool) → a ≡ true → (a || b) ≡ true
one_is a b e = rw e refl

other_is : (a b : Bool) → b ≡ true → (a || b) ≡ true
other_is true b e = refl
other_is false b e = e

-- none of so many from a on is, and the next is not
pub none_more : (f : ℕ → Bool) (a n j : ℕ) → list_any f (range_with_len a n) ≡ false → a + n ≡ j → f j ≡ false
    → list_any f (range_with_len a (suc n)) ≡ false
none_more f a zero j h is e = neither (f a) false (ap f (omega arith) ∙ e) refl
none_more f a (suc n) j h is e =
    let parts = either (f a) (list_any f (range_with_len (a + 1) n)) h in
    neither (f a) (list_any f (range_with_len (a + 1) (suc n))) parts.0
    (none_more f (a + 1) n j parts.1 (omega arith) e)

-- one of so many from a on is
pub one_found : (f : ℕ → Bool) (a n i j : ℕ) → i < n → a + i ≡ j → f j ≡ true
    → list_any f (range_with_len a n) ≡ true
one_found f a zero i j h is e = absurd (omega (arith, h))
one_found f a (suc n) zero j h is e =
    one_is (f a) (list_any f (range_with_len (a + 1) n)) (ap f (omega arith) ∙ e)
one_found f a (suc n) (suc i) j h is e =
    other_is (f a) (list_any f (range_with_len (a + 1) n))
    (one_found f (a + 1) n i j (omega (arith, h)) (omega arith) e)

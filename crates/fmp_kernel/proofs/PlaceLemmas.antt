-- The places that are left of a count, one after the other.
use Rattle.std.proofs.Common.{◌≡◌, ◌<◌, ◌+◌, ◌-◌, ℕ, suc, ◌∷◌, arith, ap}
use Rattle.fmp_base.specs.States.{places_from}

pub places_next : (k n : ℕ) → k < n → places_from k (n - k) ≡ k ∷ places_from (k + 1) (n - (k + 1))
places_next k n h =
    let e : n - k ≡ suc (n - (k + 1)) = omega (arith, h) in
    ap (places_from k) e

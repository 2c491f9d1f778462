-- Where parts of seeds begin and end.
use Rattle.std.proofs.Common.{◌≡◌, ℕ, ◌+◌, ◌-◌, ◌*◌, ◌<◌, ◌≤◌, arith, min}
use Rattle.std.proofs.lemmas.Grind.{div_ceil_times}
use Rattle.std.specs.Int.{div_ceil}
use Rattle.fmp_trials.specs.declared.seeds.Seeds.{Seeds}
use Rattle.fmp_trials.specs.Parts.{edge}

-- before the first part
pub first_edge : (s : Seeds) (parts : ℕ) → edge s parts 0 - s.before ≡ 0
first_edge s parts = omega arith

one_more : (k size : ℕ) → (k + 1) * size ≡ k * size + size
one_more k size = grind arith

between : (b l x y : ℕ) → (min (b + x) l - b) + (min (b + (x + y)) l - min (b + x) l) ≡ min (b + (x + y)) l - b
between b l x y = omega arith

-- the parts before one, and that one
pub next_edge : (s : Seeds) (parts k : ℕ)
    → (edge s parts k - s.before) + (edge s parts (k + 1) - edge s parts k) ≡ edge s parts (k + 1) - s.before
next_edge s parts k =
    let size = div_ceil (s.last - s.before) parts in
    rw (one_more k size) (between s.before s.last (k * size) size)

from_min : (b l x : ℕ) → b ≤ l → min (b + x) l ≡ b + (min (b + x) l - b)
from_min b l x h = omega (arith, h)

-- a part begins after the seeds of those before it
pub edge_from : (s : Seeds) (parts k : ℕ) → s.before ≤ s.last
    → edge s parts k ≡ s.before + (edge s parts k - s.before)
edge_from s parts k h = from_min s.before s.last (k * div_ceil (s.last - s.before) parts) h

whole : (b l x : ℕ) → l - b ≤ x → min (b + x) l - b ≡ l - b
whole b l x h = omega (arith, h)

-- all parts
pub last_edge : (s : Seeds) (parts : ℕ) → 0 < parts → edge s parts parts - s.before ≡ s.last - s.before
last_edge s parts h =
    let size = div_ceil (s.last - s.before) parts in
    let enough = (div_ceil_times (s.last - s.before) parts h).0 in
    whole s.before s.last (parts * size) (grind (arith, enough))

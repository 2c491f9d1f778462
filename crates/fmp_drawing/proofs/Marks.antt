-- The first and the last of the marks that stand between two places.
use Rattle.std.proofs.Common.{◌≡◌, Bool, true, false, List, [], ◌∷◌, ◌≤ℤ◌, ap, arith, subst}
use Rattle.std.proofs.lemmas.Int.{clamps, ints}
use Rattle.std.specs.Int.{int_max, int_min}
use Rattle.std.specs.List.{AllByRecursion}
use Rattle.std.specs.Prelude.{if◌then◌else◌}
use Rattle.fmp_drawing.specs.declared.scene.TakenPixels.{TakenPixels}
use Rattle.fmp_drawing.specs.Places.{earlier, earliest, later_end, latest, stands_between}
use Rattle.fmp_timeline.specs.declared.lengths.Tenths.{Tenths}

smaller : (b : Bool) (most other : Tenths)
    → (if b then record { 0 = int_min most.0 other.0 } else most).0 ≤ℤ most.0
smaller true most other = omega (arith, ints, clamps)
smaller false most other = omega (arith, ints)

greater : (b : Bool) (least other : Tenths)
    → least.0 ≤ℤ (if b then record { 0 = int_max least.0 other.0 } else least).0
greater true least other = omega (arith, ints, clamps)
greater false least other = omega (arith, ints)

pub earliest_most : (left right : Tenths) (ts : List TakenPixels) (most : Tenths)
    → (earliest left right ts most).0 ≤ℤ most.0
earliest_most left right [] most = omega (arith, ints)
earliest_most left right (t ∷ ts) most =
    let rest = earliest_most left right ts (earlier left right t most) in
    let here = smaller (stands_between left right t) most t.from in
    omega (arith, ints, rest, here)

pub latest_least : (left right : Tenths) (ts : List TakenPixels) (least : Tenths)
    → least.0 ≤ℤ (latest left right ts least).0
latest_least left right [] least = omega (arith, ints)
latest_least left right (t ∷ ts) least =
    let rest = latest_least left right ts (later_end left right t least) in
    let here = greater (stands_between left right t) least t.to in
    omega (arith, ints, rest, here)

before : (left right : Tenths) (t : TakenPixels) (most first : Tenths) → first.0 ≤ℤ (earlier left right t most).0
    → stands_between left right t ≡ true → first.0 ≤ℤ t.from.0
before left right t most first below stands =
    let is : earlier left right t most ≡ record { 0 = int_min most.0 t.from.0 } =
    ap (λ (b : Bool). if b then record { 0 = int_min most.0 t.from.0 } else most) stands in
    let least : first.0 ≤ℤ int_min most.0 t.from.0 = subst (λ (x : Tenths). first.0 ≤ℤ x.0) is below in
    omega (arith, ints, clamps, least)

after : (left right : Tenths) (t : TakenPixels) (least last : Tenths) → (later_end left right t least).0 ≤ℤ last.0
    → stands_between left right t ≡ true → t.to.0 ≤ℤ last.0
after left right t least last above stands =
    let is : later_end left right t least ≡ record { 0 = int_max least.0 t.to.0 } =
    ap (λ (b : Bool). if b then record { 0 = int_max least.0 t.to.0 } else least) stands in
    let most : int_max least.0 t.to.0 ≤ℤ last.0 = subst (λ (x : Tenths). x.0 ≤ℤ last.0) is above in
    omega (arith, ints, clamps, most)

pub earliest_each : (left right : Tenths) (ts : List TakenPixels) (most : Tenths)
    → AllByRecursion (λ t. stands_between left right t ≡ true → (earliest left right ts most).0 ≤ℤ t.from.0) ts
earliest_each left right [] most = tt
earliest_each left right (t ∷ ts) most = (
  before left right t most (earliest left right (t ∷ ts) most)
      (earliest_most left right ts (earlier left right t most)),
  earliest_each left right ts (earlier left right t most),
)

pub latest_each : (left right : Tenths) (ts : List TakenPixels) (least : Tenths)
    → AllByRecursion (λ t. stands_between left right t ≡ true → t.to.0 ≤ℤ (latest left right ts least).0) ts
latest_each left right [] least = tt
latest_each left right (t ∷ ts) least = (
  after left right t least (latest left right (t ∷ ts) least)
      (latest_least left right ts (later_end left right t least)),
  latest_each left right ts (later_end left right t least),
)

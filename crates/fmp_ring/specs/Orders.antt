-- Lists of numbers below a bound, none of them twice.
use Rattle.std.specs.Prelude.{◌≡◌, ℕ, ◌<◌, List, [], ◌∷◌, nat_eq, false}
use Rattle.std.specs.List.{list_any}

-- each is below n, and none stands again after itself
abbrev pub IsOrder : ℕ → List ℕ → Type 0
IsOrder n [] = Unit {0}
IsOrder n (t ∷ ts) = (t < n) × (list_any (nat_eq t) ts ≡ false) × IsOrder n ts

-- Seeds in parts, and what comes of the parts in order.
use Rattle.std.specs.Prelude.{ℕ, ◌+◌, ◌-◌, ◌*◌, List, [], ◌∷◌, Option, None, Result, Ok, min}
use Rattle.std.specs.Int.{div_ceil}
use Rattle.fmp_trials.specs.declared.seeds.Seeds.{Seeds}

-- after which seed the part of a number begins, from 0 on, where seeds are cut into this many parts
abbrev pub edge : Seeds → (parts number : ℕ) → ℕ
edge s parts number = min (s.before + number * div_ceil (s.last - s.before) parts) s.last

-- the first of some results that is not `Ok None`
abbrev pub first_of : {A E : Type 0} → List (Result (Option A) E) → Result (Option A) E
first_of [] = Ok None
first_of (Ok None ∷ parts) = first_of parts
first_of (part ∷ parts) = part

-- The last item of an array.
use Rattle.std.proofs.Common.{◌≡◌, ◌-◌, ℕ, suc, List, [], ◌∷◌, Option, Some, None, length, map, option_map, refl, ap}
use Rattle.std.proofs.Common.{◌∙◌, arith, option_copied, slice_get}
use Rattle.std.specs.Borrow.{Bor}
use Rattle.json.specs.Json.{Json}
use Rattle.json.specs.Value.{items_of}
use Rattle.fmp_server.specs.Requests.{last_item}

copied : {V : Type 0} (view : V → Json) (r : Option (Bor V))
    → option_map (λ (v : Bor V). view v.now) r ≡ option_map view (option_copied r)
copied view None = refl
copied view (Some v) = refl

last_of : {V : Type 0} (view : V → Json) (xs : List V)
    → option_map view (slice_get xs (length xs - 1)) ≡ last_item (items_of (map view xs))
last_of view [] = refl
last_of view (x ∷ []) = refl
last_of {V} view (x ∷ y ∷ ys) =
    let n : length (x ∷ y ∷ ys) - 1 ≡ suc (length (y ∷ ys) - 1) = omega arith in
    ap (λ (i : ℕ). option_map view (slice_get (x ∷ y ∷ ys) i)) n ∙ last_of view (y ∷ ys)

-- what lends the last element of a list sees the last item
pub last_view : {V : Type 0} (view : V → Json) (xs : List V) (r : Option (Bor V))
    → option_copied r ≡ slice_get xs (length xs - 1)
    → option_map (λ (v : Bor V). view v.now) r ≡ last_item (items_of (map view xs))
last_view {V} view xs r e = copied view r ∙ ap (λ (o : Option V). option_map view o) e ∙ last_of view xs

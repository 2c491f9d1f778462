-- The function of the body at a place.
use Rattle.std.proofs.Common.{◌≡◌, ◌∙◌, ap, sym, ℕ, ◌<◌, ◌≤◌, List, [], length, map, get_or, Some, None}
use Rattle.std.specs.List.{slice_get}
use Rattle.std.specs.Option.{option_map}
use Rattle.std.proofs.lemmas.Option.{slice_get-map, slice_get_past, slice_get-get_or}
use Rattle.fmp_tasklang.specs.declared.trees.Body.{Body}
use Rattle.fmp_tasklang.specs.Views.{body_view}
use Rattle.fmp_export.specs.Words.{c_function}
use Rattle.fmp_toppers.specs.Lines.{body_function}

pub function_at :
    (bs : List Body) (k : ℕ) (b : Body) → k < length bs → b ≡ get_or bs k b →
    body_function (slice_get (map body_view bs) k) ≡ c_function b.name.name
function_at bs k b within is =
    ap body_function (slice_get-map body_view bs k)
    ∙ ap (λ o. body_function (option_map body_view o)) (slice_get-get_or bs k b within)
    ∙ ap (λ (x : Body). c_function x.name.name) (sym is)

pub no_function :
    (bs : List Body) (k : ℕ) → length bs ≤ k → body_function (slice_get (map body_view bs) k) ≡ []
no_function bs k past =
    ap body_function (slice_get-map body_view bs k)
    ∙ ap (λ o. body_function (option_map body_view o)) (slice_get_past bs k past)

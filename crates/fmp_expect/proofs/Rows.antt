-- Rows that are changed one after the other.
use Rattle.std.proofs.Common.{◌≡◌, ◌∙◌, ℕ, ◌+◌, ◌<◌, List, ◌++◌, ap, arith, drop, get_or, length, map, set, take}
use Rattle.std.proofs.lemmas.List.{get_or_default}
use Rattle.std.proofs.lemmas.List.Edits.{map_over_more}
use Rattle.fmp_expect.specs.declared.checker.Watch.{Watch}

pub watch_row : (f : Watch → Watch) (rows now : List Watch) (i : ℕ) (d z : Watch) → i < length rows → length now
    ≡ length rows
    → now ≡ map f (take i rows) ++ drop i rows → z ≡ f (get_or now i d)
    → set now i z ≡ map f (take (i + 1) rows) ++ drop (i + 1) rows
watch_row f rows now i d z within long before is =
    let x = get_or now i d in
    let inside : i < length now = omega (arith, within, long) in
    ap (λ (y : Watch). set now i y) is ∙ map_over_more f rows now i x within before (get_or_default now i d x inside)

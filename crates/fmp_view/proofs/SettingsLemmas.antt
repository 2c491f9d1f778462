-- The text of settings is all that their file has.
use Rattle.std.proofs.Common.{ℕ, ◌≡◌, ◌∙◌, ◌+◌, ◌≤◌, IfSome, List, Option, Some, None, ap, arith, length}
use Rattle.std.proofs.lemmas.List.{length-take, take_all}
use Rattle.fmp_files.specs.Files.{front}

pub whole_text : (file : Option (List ℕ)) (text : List ℕ) (limit : ℕ) → length text ≤ limit
    → IfSome file (λ all. text ≡ front (Some limit) all) → IfSome file (λ all. text ≡ all)
whole_text None text limit few is = tt
whole_text (Some all) text limit few is =
    let same = ap (λ (bytes : List ℕ). length bytes) is in
    let short : length all ≤ limit + 1 = omega (arith, length-take (limit + 1) all, same, few) in
    is ∙ take_all (limit + 1) all short

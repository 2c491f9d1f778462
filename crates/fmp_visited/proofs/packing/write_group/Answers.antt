use Rattle.std.proofs.Common.{◌∷◌, ◌++◌, [], ℕ, List, append_assoc, ap, ◌∙◌, arith, take}
use Rattle.std.proofs.lemmas.List.{take_more_set}
use Rattle.fmp_visited.specs.Rows.{changes_of, mask_of}
use Rattle.fmp_visited.proofs.packing.write_group.Goals as goal

pub returns-clause-bytes : goal.returns-clause-bytes
returns-clause-bytes c =
    let f = c.args.first.now in
    let v = c.args.values.now in
    let old : List ℕ = take c.args.at c.args.row.now in
    let front = take_more_set c.args.row.now c.args.at c.args.mask (omega (arith, c.requires.room)) in
    c.write_changes.ensures.bytes
    ∙ (ap (λ (bytes : List ℕ). bytes ++ changes_of f v)
    (front ∙ ap (λ (m : ℕ). old ++ m ∷ []) c.requires.mask)
    ∙ append_assoc old (mask_of f v ∷ []) (changes_of f v))

use Rattle.std.proofs.Common.{◌≡◌, ◌++◌, List, ℕ, ap, map, take, subst, ◌∙◌}
use Rattle.std.specs.Prelude.{IfSome}
use Rattle.fmp_fields.specs.FieldNumbers.{number_of}
use Rattle.fmp_fields.specs.Pieces.{block_fields}
use Rattle.fmp_fields.proofs.piece_values.write_block.Goals as goal

pub returns-in-Some-clause-values : goal.returns-in-Some-clause-values
returns-in-Some-clause-values c = λ w came e yes.
    let here = map (number_of c.args.tables.now.system w came) (block_fields c.args.t) in
    let told = subst (λ x. IfSome x (λ numbers. numbers ≡ here)) c.in-Some.is (c.block_values.ensures w came e) in
    c.write_array.ensures.values ∙ ap (λ (ns : List ℕ). take c.args.at c.args.values.now ++ ns) told

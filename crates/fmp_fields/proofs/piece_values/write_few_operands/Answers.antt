use Rattle.std.proofs.Common.{◌++◌, List, ℕ, ap, take, ◌∙◌, arith}
use Rattle.std.specs.Prelude.{get_or, pos}
use Rattle.fmp_reachable.specs.Numbers.{unsigned}
use Rattle.fmp_fields.proofs.Pieces.{written-first}
use Rattle.fmp_fields.proofs.piece_values.write_few_operands.Goals as goal

pub returns-clause-values : goal.returns-clause-values
returns-clause-values c =
    written-first (λ (i : ℕ). unsigned (get_or c.args.operands.now i (pos 0))) c.args.at c.args.count 4
    c.args.values.now c.write_array.new.values c.requires.few (omega (arith, c.requires.room))
    (c.write_array.ensures.values
    ∙ ap (λ (ns : List ℕ). take c.args.at c.args.values.now ++ ns) c.first_operands.ensures)

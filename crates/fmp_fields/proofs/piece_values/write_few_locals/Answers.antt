use Rattle.std.proofs.Common.{◌++◌, List, ℕ, ap, take, ◌∙◌, arith}
use Rattle.std.specs.Prelude.{get_or, pos}
use Rattle.fmp_live.specs.Zeroed.{zeroed_by}
use Rattle.fmp_reachable.specs.Numbers.{unsigned}
use Rattle.fmp_fields.proofs.Pieces.{written-first}
use Rattle.fmp_fields.proofs.piece_values.write_few_locals.Goals as goal

pub returns-clause-values : goal.returns-clause-values
returns-clause-values c =
    written-first (λ (l : ℕ). unsigned (get_or (zeroed_by c.args.row.now c.args.locals.now) l (pos 0))) c.args.at
    c.args.count 4 c.args.values.now c.write_array.new.values c.requires.few (omega (arith, c.requires.room))
    (c.write_array.ensures.values ∙ ap (λ (ns : List ℕ). take c.args.at c.args.values.now ++ ns) c.first_locals.ensures)

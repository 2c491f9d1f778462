use Rattle.std.proofs.Common.{◌++◌, List, ℕ, ap, take, ◌∙◌}
use Rattle.fmp_fields.proofs.piece_values.write_processor.Goals as goal

pub returns-clause-values : goal.returns-clause-values
returns-clause-values c = λ w came e.
    c.write_array.ensures.values
    ∙ ap (λ (ns : List ℕ). take c.args.at c.args.values.now ++ ns) (c.processor_values.ensures w came e)

use Rattle.std.proofs.Common.{arith}
use Rattle.std.proofs.lemmas.List.{take_more_set}
use Rattle.fmp_fields.proofs.piece_values.write_value.Goals as goal

pub returns-clause-values : goal.returns-clause-values
returns-clause-values c = take_more_set c.args.values.now c.args.at c.args.value (omega (arith, c.requires))

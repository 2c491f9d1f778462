use Rattle.std.proofs.Common.{rules}
use Rattle.std.proofs.lemmas.Slice.{take-put_mid}
use Rattle.fmp_fields.proofs.piece_values.write_array.Goals as goal

pub returns-clause-values : goal.returns-clause-values
returns-clause-values g c =
    rw c.copy_from_slice.ensures.after (take-put_mid c.args.at _ c.args.values.now c.args.numbers _ (search rules)
    (search rules))

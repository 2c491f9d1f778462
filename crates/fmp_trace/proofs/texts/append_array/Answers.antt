use Rattle.std.proofs.Common.{rules}
use Rattle.std.proofs.lemmas.Slice.{take-put_mid}
use Rattle.fmp_trace.proofs.texts.append_array.Goals as goal

pub returns-clause-text : goal.returns-clause-text
returns-clause-text g c =
    rw c.copy_from_slice.ensures.after (take-put_mid c.args.end _ c.args.line.now c.args.text _ (search rules)
    (search rules))

use Rattle.std.proofs.Common.{rules, refl}
use Rattle.std.proofs.lemmas.Slice.{take-put_mid}
use Rattle.fmp_c.proofs.recorded.append.Goals as goal

pub returns-clause-text : goal.returns-clause-text
returns-clause-text c =
    rw c.copy_from_slice.ensures.after (take-put_mid c.args.end _ c.args.line.now c.args.text.now _ refl (search rules))

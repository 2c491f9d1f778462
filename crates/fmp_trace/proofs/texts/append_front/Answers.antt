use Rattle.std.proofs.Common.{rules, refl}
use Rattle.fmp_trace.proofs.LineBytes.{take-put_front}
use Rattle.fmp_trace.proofs.texts.append_front.Goals as goal

pub returns-clause-text : goal.returns-clause-text
returns-clause-text g c =
    rw c.copy_from_slice.ensures.after (take-put_front c.args.end _ c.args.count _ c.args.line.now c.args.bytes.now
    (search rules) (search rules) refl)

use Rattle.std.proofs.lemmas.Result.{on_ok_weaker}
use Rattle.fmp_looking.proofs.test_telling.tell_refused.Goals as goal

pub returns-in-Ok-clause-ok : goal.returns-in-Ok-clause-ok
returns-in-Ok-clause-ok g c =
    on_ok_weaker c.tell_lines.result
    (λ h. (c.in-Ok.lines.items, c.in-Ok.ensures, rw c.deref.ensures.value at h)) c.tell_lines.ensures.ok

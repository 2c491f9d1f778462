use Rattle.std.proofs.lemmas.Result.{on_ok_weaker}
use Rattle.fmp_looking.proofs.test_telling.print_failed.Goals as goal

pub returns-clause-ok : goal.returns-clause-ok
returns-clause-ok g c =
    on_ok_weaker c.printed.result
    (λ h. (g.O.Outside.done c.say_failed.new.outside, c.in_ok-say_failed.ensures.ok, rw c.deref.ensures.value at h))
    c.printed.ensures.ok

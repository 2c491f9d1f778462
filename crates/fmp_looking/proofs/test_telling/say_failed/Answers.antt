use Rattle.std.proofs.lemmas.Result.{on_ok_weaker}
use Rattle.std.specs.Str.Lossy.{utf8_lossy}
use Rattle.fmp_looking.proofs.TestEnds.{says_both}
use Rattle.fmp_looking.proofs.test_telling.say_failed.Goals as goal

pub returns-clause-ok : goal.returns-clause-ok
returns-clause-ok g c =
    on_ok_weaker c.say_text.result
    (λ h. says_both _ _ _ _ (utf8_lossy c.args.failed.now.report.items) c.say_seed.ensures
    (rw c.deref.ensures.value at h))
    c.say_text.ensures.ok

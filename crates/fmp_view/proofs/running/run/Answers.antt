use Rattle.std.proofs.Common.{inl}
use Rattle.fmp_view.proofs.RunEnds.{ends_alone, shows}
use Rattle.fmp_view.proofs.running.run.Goals as goal

pub returns-in-Err : goal.returns-in-Err
returns-in-Err g c = λ done.
    ends_alone _ _ _ _ _ (inl (shows _ _ _ _ c.in-Err.ensures.refused (c.refuse_form.ensures done)))

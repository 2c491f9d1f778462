use Rattle.fmp_view.proofs.MadeEnds.{ends_built}
use Rattle.fmp_view.proofs.testing.test_system.Goals as goal

pub returns-in-Ok : goal.returns-in-Ok
returns-in-Ok g c = λ done.
    ends_built _ _ _ _ _ _ _ _ (c.test_image-status.ensures done) c.in-Ok.ensures.builds c.requires

use Rattle.std.proofs.Common.{◌∙◌}
use Rattle.fmp_server.proofs.Locations.{next_location}
use Rattle.fmp_server.proofs.navigation.write_locations.Goals as goal

pub loop-one-preserved : goal.loop-one-preserved
loop-one-preserved c =
    let e = c.in_ok-write_wanted.ensures in
    record {
      before = e.before ∙ c.loop-one.invariant.before;
      tokens = next_location _ _ _ _ _ _ _ _ _ c.loop-one-test.true c.loop-one.invariant.tokens e.tokens;
    }

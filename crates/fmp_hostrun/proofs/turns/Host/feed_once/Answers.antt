use Rattle.fmp_hostrun.proofs.Working.{added_fed, did_fed}
use Rattle.fmp_hostrun.proofs.turns.Host.feed_once.Goals as goal

pub returns-clause-added : goal.returns-clause-added
returns-clause-added g c = added_fed _ _ _ _ _ _ _ c.feed.ensures.visited c.feed.ensures.mine c.feed.ensures.fed

pub returns-clause-did : goal.returns-clause-did
returns-clause-did g c = did_fed _ _ _ c.args.event _ _ _ c.requires.fed c.in_ok-receipt.ensures.visited
    c.in_ok-receipt.ensures.mine c.in_ok-receipt.ensures.fed

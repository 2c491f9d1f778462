use Rattle.fmp_explore.proofs.searches.Search.replay_to.Goals as goal

pub has_row-requires-clause-ready : goal.has_row-requires-clause-ready
has_row-requires-clause-ready c = c.in_ok-follow_to.ensures.ready c.if-not-branch.false

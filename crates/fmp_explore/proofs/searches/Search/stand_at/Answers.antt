use Rattle.std.proofs.Common.{◌<◌, length, subst, sym}
use Rattle.fmp_visited.specs.Seen.{SeenStates}
use Rattle.fmp_explore.proofs.SearchStepLemmas.{same_live, stays_on}
use Rattle.fmp_explore.proofs.searches.Search.stand_at.Goals as goal
use Rattle.fmp_witness.specs.Asked.{asked_of}

pub replay_to-requires-clause-live : goal.replay_to-requires-clause-live
replay_to-requires-clause-live c =
    same_live (asked_of c.args.subject.now) c.args.self.now c.restore_to.new.self c.restore_to.ensures.stays.same
    c.requires.live

pub replay_to-requires-clause-there : goal.replay_to-requires-clause-there
replay_to-requires-clause-there c =
    subst (λ (s : SeenStates). c.args.at.now.state < length s.rows) (sym c.restore_to.ensures.stays.seen)
    c.requires.there

pub replay_to-requires-clause-told : goal.replay_to-requires-clause-told
replay_to-requires-clause-told c = c.restore_to.ensures.told

pub returns-then-branch-clause-stands : goal.returns-then-branch-clause-stands
returns-then-branch-clause-stands c = λ _. c.in_ok-restore_to.ensures.stands c.if-branch.true

pub returns-clause-stays : goal.returns-clause-stays
returns-clause-stays c =
    stays_on c.args.self.now c.restore_to.new.self c.replay_to.new.self c.restore_to.ensures.stays
    c.replay_to.ensures.stays

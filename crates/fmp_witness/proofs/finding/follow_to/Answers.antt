use Rattle.std.proofs.Common.{IsTrue, rules}
use Rattle.fmp_witness.proofs.finding.follow_to.Goals as goal

pub is_done-requires-clause-followed : goal.is_done-requires-clause-followed
is_done-requires-clause-followed c =
    let yes : IsTrue c.follow.result = search rules in
    c.follow.ensures yes

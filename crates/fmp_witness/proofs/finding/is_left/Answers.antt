use Rattle.std.proofs.Common.{IsTrue, rules}
use Rattle.fmp_witness.proofs.finding.is_left.Goals as goal

pub is_seen-requires : goal.is_seen-requires
is_seen-requires c =
    let yes : IsTrue c.follow.result = search rules in
    c.follow.ensures yes

pub returns : goal.returns
returns c = λ seen.
    let yes : IsTrue c.follow.result = search rules in
    record { legal = (c.follow.ensures yes).legal; shown = c.is_seen.ensures seen }

use Rattle.std.proofs.Common.{IsTrue, rules}
use Rattle.fmp_witness.proofs.finding.is_told.Goals as goal

pub tells_forbidden-requires : goal.tells_forbidden-requires
tells_forbidden-requires c =
    let yes : IsTrue c.follow_done.result = search rules in
    (c.follow_done.ensures yes).followed

pub returns : goal.returns
returns c = λ told.
    let yes : IsTrue c.follow_done.result = search rules in
    let done = c.follow_done.ensures yes in
    record {
      legal = done.followed.legal;
      shown = record { of_last = done.of_last; forbidden = c.tells_forbidden.ensures told };
    }

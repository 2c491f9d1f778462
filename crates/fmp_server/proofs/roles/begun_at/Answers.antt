use Rattle.std.proofs.Common.{◌<◌, ◌≤◌, ◌+◌, ◌-◌, ◌/◌, length, arith}
use Rattle.std.proofs.lemmas.Bool.{false≢true}
use Rattle.fmp_server.proofs.Order.{others_more}
use Rattle.fmp_server.proofs.roles.begun_at.Goals as goal

pub halves-preserved : goal.halves-preserved
halves-preserved c =
    let middle = c.halves.low + (c.halves.high - c.halves.low) / 2 in
    let more : c.halves.low < c.halves.high = c.halves-test.true in
    let high : c.halves.high ≤ length c.args.tokens.now = c.halves.invariant.within in
    let within : middle < length c.args.tokens.now = omega arith in
    record {
      halves = omega arith;
      within = omega arith;
      begun = c.halves.invariant.begun;
      others = others_more c.args.tokens.now c.args.offset middle c.requires within
          (λ begun. false≢true (c.if-is_begun_at.ensures.1 begun));
    }

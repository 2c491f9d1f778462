use Rattle.std.proofs.Common.{◌≤◌, ℕ, arith}
use Rattle.fmp_looking.proofs.MetLemmas.{after_rounds, first_of_round, no_more, none_met}
use Rattle.fmp_looking.proofs.trying_beside.first_failing_beside.Goals as goal

pub loop-round-init : goal.loop-round-init
loop-round-init g c =
    record {
      met = none_met c.args.trials.now 0 0 (omega arith);
      on = omega arith;
      each = omega arith;
      jobs = c.requires;
    }

pub returns-then-count-eq0 : goal.returns-then-count-eq0
returns-then-count-eq0 g c =
    let round = c.loop-round.round in
    let seeds = c.seeds-seeds.result in
    after_rounds c.args.trials.now round.before c.args.last
    (no_more round.before c.args.last seeds.before seeds.last c.count.result c.seeds-seeds.ensures.before
    (λ before. c.seeds-seeds.ensures.last before c.loop-round.invariant.each c.loop-round.invariant.jobs)
    c.count.ensures c.if-count-eq0.true)
    c.loop-round.invariant.met

enough : (last turn before : ℕ) → last ≤ turn → turn ≤ before → last ≤ before
enough last turn before over on = omega (arith, over, on)

pub returns-in-Some : goal.returns-in-Some
returns-in-Some g c =
    let seeds = c.seeds-seeds.result in
    first_of_round c.args.trials.now c.loop-round.round.before seeds.before seeds.last c.args.last c.in-Some.found
    c.loop-round.invariant.met c.seeds-seeds.ensures.before c.seeds-seeds.ensures.most
    (rw c.in-Some.is at c.in_ok-found.ensures)

pub returns : goal.returns
returns g c =
    after_rounds c.args.trials.now c.loop-round.round.before c.args.last
    (enough _ _ _ c.loop-round-test.false c.loop-round.invariant.on) c.loop-round.invariant.met

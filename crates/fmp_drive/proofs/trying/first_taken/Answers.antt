use Rattle.std.proofs.Common.{arith, refl, sym, ◌∙◌}
use Rattle.fmp_drive.proofs.DriveLemmas.{done_step, kept_step, stand_end, stand_step}
use Rattle.fmp_drive.proofs.trying.first_taken.Goals as goal

pub loop-number-init : goal.loop-number-init
loop-number-init g c = record {
  same = refl;
  from = omega arith;
  stand = λ m low high. absurd (omega
      (arith, low, high));
}

pub loop-number-preserved : goal.loop-number-preserved
loop-number-preserved g c =
    let both = stand_step g.B.Body.meaning c.args.kernel.now c.loop-number.kernel c.step.new.self c.args.source
    c.args.first
    c.loop-number.number _ c.loop-number.invariant.same c.event_of-e.ensures
    (sym c.in-Nothing.is ∙ c.step.ensures.effect)
    c.step.ensures.state c.loop-number.invariant.stand in
    record { same = both.0; from = omega arith; stand = both.1 }

pub returns-in-Done : goal.returns-in-Done
returns-in-Done g c = (
  done_step g.B.Body.meaning c.args.kernel.now c.loop-number.kernel c.step.new.self _ c.loop-number.invariant.same
      (sym c.in-Done.is ∙ c.step.ensures.effect) c.step.ensures.state,
  record {
    number = c.loop-number.number;
    first_on = c.loop-number.invariant.from;
    in_front = c.loop-number-test.true;
    event = c.event_of-e.ensures;
    others = c.loop-number.invariant.stand;
  },
)

pub returns-in-Kept : goal.returns-in-Kept
returns-in-Kept g c = (
  kept_step g.B.Body.meaning c.args.kernel.now c.loop-number.kernel c.step.new.self _ c.loop-number.invariant.same
      (sym c.in-Kept.is ∙ c.step.ensures.effect) c.step.ensures.state,
  record {
    number = c.loop-number.number;
    first_on = c.loop-number.invariant.from;
    in_front = c.loop-number-test.true;
    event = c.event_of-e.ensures;
    others = c.loop-number.invariant.stand;
  },
)

pub returns : goal.returns
returns g c = (
  stand_end g.B.Body.meaning c.args.kernel.now c.args.source c.args.first c.loop-number.number c.args.end
      (omega arith) c.loop-number.invariant.stand,
  c.loop-number.invariant.same,
)

use Rattle.std.proofs.Common.{◌≡◌, ◌∙◌, ◌+◌, ◌≤◌, ap, arith, drop, refl, sym, length}
use Rattle.std.proofs.lemmas.List.{drop_all}
use Rattle.fmp_kernel.specs.Comings.{view_after_each}
use Rattle.fmp_kernel.proofs.Comings.{after-step, taken-step}
use Rattle.fmp_expect.specs.Judges.{broken_along}
use Rattle.fmp_expect.specs.Parts.{or_else}
use Rattle.fmp_expect.proofs.Judging.{broken_step, or_none}
use Rattle.fmp_expect.proofs.judge.judge_run.Goals as goal

pub loop-e-init : goal.loop-e-init
loop-e-init g c = record { room = c.requires; state = refl; broken = refl }

pub judge_one-now-requires : goal.judge_one-now-requires
judge_one-now-requires g c = omega (arith, c.loop-e.invariant.room, c.loop-e-test.true)

pub loop-e-preserved : goal.loop-e-preserved
loop-e-preserved g c =
    let k = c.loop-e.kernel in
    let es = c.args.events.now in
    let i = c.loop-e.e-index in
    let one = taken-step k c.judge_one-now.new.kernel _ c.judge_one-now.ensures.state in
    let breaks = g.J.LineJudge.breaks c.args.judge.now in
    let step = broken_step breaks g.T.Coming.reaction k c.judge_one-now.new.kernel es i c.e-item.result c.loop-e.broken
    c.judge_one-now.result _ c.loop-e-test.true c.e-item.is c.judge_one-now.ensures.state c.judge_one-now.ensures.broken
    c.loop-e.invariant.broken in
    record {
      room = omega (arith, c.loop-e.invariant.room, one);
      state = after-step g.T.Coming.reaction k c.judge_one-now.new.kernel _ es i c.e-item.result c.loop-e-test.true
          c.e-item.is c.judge_one-now.ensures.state
          c.loop-e.invariant.state;
      broken =
          ap (λ b. or_else b (broken_along breaks g.T.Coming.reaction c.judge_one-now.new.kernel (drop (i + 1) es)))
          c.first_of-broken.ensures ∙ step;
    }

pub returns-clause-state : goal.returns-clause-state
returns-clause-state g c =
    let none : length c.args.events.now ≤ c.loop-e.e-index = omega arith in
    sym (ap (view_after_each g.T.Coming.reaction c.loop-e.kernel) (drop_all c.loop-e.e-index c.args.events.now none))
    ∙ c.loop-e.invariant.state

pub returns-clause-broken : goal.returns-clause-broken
returns-clause-broken g c =
    let breaks = g.J.LineJudge.breaks c.args.judge.now in
    let none : length c.args.events.now ≤ c.loop-e.e-index = omega arith in
    sym (or_none c.loop-e.broken)
    ∙ sym
    (ap (λ es. or_else c.loop-e.broken (broken_along breaks g.T.Coming.reaction c.loop-e.kernel es))
    (drop_all c.loop-e.e-index c.args.events.now none))
    ∙ c.loop-e.invariant.broken

use Rattle.std.proofs.Common.{◌∙◌, ◌≤◌, ap, arith, refl, sym, length}
use Rattle.std.proofs.lemmas.List.{drop_all}
use Rattle.fmp_kernel.specs.KernelViews.{view_after_all}
use Rattle.fmp_session.proofs.Following.{state_step, taken_step}
use Rattle.fmp_session.proofs.replaying.take_all.Goals as goal

pub loop-e-init : goal.loop-e-init
loop-e-init g c = record { room = c.requires; state = refl }

pub step-requires : goal.step-requires
step-requires g c = omega (arith, c.loop-e.invariant.room, c.loop-e-test.true)

pub loop-e-preserved : goal.loop-e-preserved
loop-e-preserved g c =
    let k = c.loop-e.kernel in
    let one = taken_step g.B.Body.meaning k c.step.new.self _ c.step.ensures.state in
    record {
      room = omega (arith, c.loop-e.invariant.room, one);
      state = state_step g.B.Body.meaning k c.step.new.self _ c.args.events.now c.loop-e.e-index _ c.loop-e-test.true
          c.step.ensures.state c.loop-e.invariant.state;
    }

pub returns : goal.returns
returns g c =
    let none : length c.args.events.now ≤ c.loop-e.e-index = omega arith in
    sym (ap (view_after_all g.B.Body.meaning c.loop-e.kernel) (drop_all c.loop-e.e-index c.args.events.now none))
    ∙ c.loop-e.invariant.state

use Rattle.std.proofs.Common.{arith, ℕ, ◌+◌, ◌<◌, ◌≤◌}
use Rattle.fmp_kernel.proofs.Comings.{taken-step}
use Rattle.fmp_frames.specs.Watches.{after_first}
use Rattle.fmp_frames.proofs.CountLemmas.{done-here, first-more}
use Rattle.fmp_frames.proofs.Differences.{further}
use Rattle.fmp_frames.proofs.watching.count_up_to.Goals as goal

pub loop-e-preserved : goal.loop-e-preserved
loop-e-preserved g c =
    let reaction = g.T.Coming.reaction in
    let k = c.args.kernel.now in
    let es = c.args.events.now in
    let i = c.loop-e.e-index in
    let one : c.take.new.kernel.taken ≤ c.loop-e.kernel.taken
    + 1 = taken-step c.loop-e.kernel c.take.new.kernel _ c.take.ensures.state in
    record {
      few = omega arith;
      place = omega arith;
      after = first-more reaction k c.loop-e.kernel c.take.new.kernel es i c.e-item.result c.loop-e-test.true
          c.e-item.is c.loop-e.invariant.after c.take.ensures.state;
      before = further (λ (j : ℕ). (after_first reaction k es j).done < c.args.number) i c.loop-e.invariant.before
          (done-here reaction k c.loop-e.kernel es i c.args.number c.done.result c.loop-e.invariant.after c.done.ensures
          (omega (arith, c.if-done-number.false)));
    }

use Rattle.std.proofs.Common.{◌≡◌, ◌∙◌, ◌≤◌, ℕ, List, [], ap, arith, refl, subst, sym, length}
use Rattle.std.proofs.lemmas.List.{drop_all}
use Rattle.fmp_base.specs.declared.events.Line.{Line}
use Rattle.fmp_kernel.specs.Comings.{view_after_each}
use Rattle.fmp_kernel.proofs.Comings.{after-step, taken-step}
use Rattle.fmp_expect.specs.Meaning.{Told, with_lines}
use Rattle.fmp_expect.specs.Runs.{last_told, rest_told, told_after}
use Rattle.fmp_expect.specs.Watches.{AreTold}
use Rattle.fmp_expect.proofs.Events.{told_step}
use Rattle.fmp_expect.proofs.running.tell_run.Goals as goal

pub loop-e-init : goal.loop-e-init
loop-e-init g c = record {
  room = c.requires;
  state = refl;
  told = λ xs are.
      (last_told c.args.kernel.now [], c.tell_last.ensures xs [] are, refl);
}

pub tell_one-requires : goal.tell_one-requires
tell_one-requires g c = omega (arith, c.loop-e.invariant.room, c.loop-e-test.true)

pub loop-e-preserved : goal.loop-e-preserved
loop-e-preserved g c =
    let k = c.loop-e.kernel in
    let es = c.args.events.now in
    let i = c.loop-e.e-index in
    let one = taken-step k c.tell_one.new.kernel _ c.tell_one.ensures.state in
    record {
      room = omega (arith, c.loop-e.invariant.room, one);
      state = after-step g.T.Coming.reaction k c.tell_one.new.kernel _ es i c.e-item.result c.loop-e-test.true
          c.e-item.is c.tell_one.ensures.state
          c.loop-e.invariant.state;
      told = λ xs are.
          let so_far = c.loop-e.invariant.told xs are in (
            told_after k (g.T.Coming.reaction k c.e-item.result) so_far.0,
            c.tell_one.ensures.told xs so_far.0 so_far.1,
            told_step g.T.Coming.reaction k c.tell_one.new.kernel es i c.e-item.result so_far.0 _ c.loop-e-test.true
                c.e-item.is
                c.tell_one.ensures.state so_far.2,
          );
    }

pub returns-clause-state : goal.returns-clause-state
returns-clause-state g c =
    let none : length c.args.events.now ≤ c.loop-e.e-index = omega arith in
    sym (ap (view_after_each g.T.Coming.reaction c.loop-e.kernel) (drop_all c.loop-e.e-index c.args.events.now none))
    ∙ c.loop-e.invariant.state

pub returns-clause-told : goal.returns-clause-told
returns-clause-told g c = λ xs are.
    let so_far = c.loop-e.invariant.told xs are in
    let none : length c.args.events.now ≤ c.loop-e.e-index = omega arith in
    subst (λ (ts : List Told). AreTold xs ts c.loop-e.checker)
    (sym (ap (λ es. rest_told g.T.Coming.reaction c.loop-e.kernel es so_far.0)
    (drop_all c.loop-e.e-index c.args.events.now none)) ∙ so_far.2) so_far.1

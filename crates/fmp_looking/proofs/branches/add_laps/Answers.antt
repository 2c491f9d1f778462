use Rattle.std.proofs.Common.{◌∙◌, ◌+◌, ◌-◌, Bool, None, Some, [], ap, refl}
use Rattle.fmp_looking.specs.Branches.{left_if, step_here, stretch_steps}
use Rattle.fmp_looking.proofs.BranchLemmas.{all_gone, gone_on, stretch_on}
use Rattle.fmp_looking.proofs.branches.add_laps.Goals as goal

pub returns-then-not-goes_on : goal.returns-then-not-goes_on
returns-then-not-goes_on g c =
    let M = g.B.Body.meaning c.args.body.now in
    let code = c.args.code.instructions.now in
    let body = c.args.code.number in
    let all = stretch_steps M code body c.args.laps.n c.args.laps.from in
    all_gone c.args.laps.times c.args.ways.now c.add_step.new.ways [] all refl
    (gone_on c.args.laps.times c.args.ways.now c.loop-turn.ways c.add_step.new.ways
    (stretch_steps M code body (c.args.laps.n - c.loop-turn._turn) c.loop-turn.here)
    (step_here code body c.loop-turn.here) [] all
    (stretch_on M code body c.args.laps.n c.loop-turn._turn c.loop-turn.here None c.loop-turn-test.true
    (c.goes_on.ensures.next ∙ ap (λ (r : Bool). left_if r c.goes_on.new.context) c.if-not-goes_on.true))
    c.in_ok-add_step.ensures c.loop-turn.invariant.steps)

pub loop-turn-preserved : goal.loop-turn-preserved
loop-turn-preserved g c =
    let M = g.B.Body.meaning c.args.body.now in
    let code = c.args.code.instructions.now in
    let body = c.args.code.number in
    let all = stretch_steps M code body c.args.laps.n c.args.laps.from in
    record {
      steps = gone_on c.args.laps.times c.args.ways.now c.loop-turn.ways c.add_step.new.ways
          (stretch_steps M code body (c.args.laps.n - c.loop-turn._turn) c.loop-turn.here)
          (step_here code body c.loop-turn.here)
          (stretch_steps M code body (c.args.laps.n - (c.loop-turn._turn + 1)) c.goes_on.new.context) all
          (stretch_on M code body c.args.laps.n c.loop-turn._turn c.loop-turn.here (Some c.goes_on.new.context)
          c.loop-turn-test.true
          (c.goes_on.ensures.next ∙ ap (λ (r : Bool). left_if r c.goes_on.new.context) c.if-not-goes_on.false))
          c.in_ok-add_step.ensures c.loop-turn.invariant.steps;
      context = c.goes_on.ensures.context c.if-not-goes_on.false;
    }

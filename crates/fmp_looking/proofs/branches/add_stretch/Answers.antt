use Rattle.std.proofs.Common.{◌∙◌, ◌+◌, ◌-◌, Bool, None, Some, [], ap, append-nil, refl, sym}
use Rattle.std.proofs.lemmas.Result.{on_ok_weaker}
use Rattle.fmp_looking.specs.Branches.{left_if, step_here, stretch_steps}
use Rattle.fmp_looking.proofs.BranchLemmas.{all_gone, gone_on, stretch_on}
use Rattle.fmp_looking.proofs.LapLemmas.{lap_back, lap_on}
use Rattle.fmp_looking.proofs.branches.add_stretch.Goals as goal

pub returns-then-not-goes_on : goal.returns-then-not-goes_on
returns-then-not-goes_on g c =
    let M = g.B.Body.meaning c.args.body.now in
    let code = c.args.code.instructions.now in
    let body = c.args.code.number in
    let all = stretch_steps M code body c.args.stretch.n c.args.stretch.from in
    all_gone 1 c.args.ways.now c.add_step.new.ways [] all refl
    (gone_on 1 c.args.ways.now c.loop-turn.ways c.add_step.new.ways
    (stretch_steps M code body (c.args.stretch.n - c.loop-turn.turn) c.loop-turn.here)
    (step_here code body c.loop-turn.here) [] all
    (stretch_on M code body c.args.stretch.n c.loop-turn.turn c.loop-turn.here None c.loop-turn-test.true
    (c.goes_on.ensures.next ∙ ap (λ (r : Bool). left_if r c.goes_on.new.context) c.if-not-goes_on.true))
    c.in_ok-add_step.ensures c.loop-turn.invariant.steps)

pub add_cycle-requires-clause-cycle : goal.add_cycle-requires-clause-cycle
add_cycle-requires-clause-cycle g c =
    let M = g.B.Body.meaning c.args.body.now in
    let body = c.args.code.number in
    lap_back M body c.loop-turn.lap (c.loop-turn.turn + 1) c.goes_on.new.context
    (lap_on M body c.loop-turn.lap c.loop-turn.turn c.loop-turn.here c.goes_on.new.context c.loop-turn.invariant.lap
    (c.goes_on.ensures.next ∙ ap (λ (r : Bool). left_if r c.goes_on.new.context) c.if-not-goes_on.false))
    (c.is_same.ensures c.if-is_same.true)

pub returns-then-is_same : goal.returns-then-is_same
returns-then-is_same g c =
    let M = g.B.Body.meaning c.args.body.now in
    let code = c.args.code.instructions.now in
    let body = c.args.code.number in
    let all = stretch_steps M code body c.args.stretch.n c.args.stretch.from in
    let rest = stretch_steps M code body (c.args.stretch.n - (c.loop-turn.turn + 1)) c.goes_on.new.context in
    on_ok_weaker c.add_cycle.result
    (λ cycle. all_gone 1 c.args.ways.now c.add_cycle.new.ways [] all refl
    (gone_on 1 c.args.ways.now c.add_step.new.ways c.add_cycle.new.ways rest rest [] all (sym (append-nil rest)) cycle
    (gone_on 1 c.args.ways.now c.loop-turn.ways c.add_step.new.ways
    (stretch_steps M code body (c.args.stretch.n - c.loop-turn.turn) c.loop-turn.here)
    (step_here code body c.loop-turn.here) rest all
    (stretch_on M code body c.args.stretch.n c.loop-turn.turn c.loop-turn.here (Some c.goes_on.new.context)
    c.loop-turn-test.true
    (c.goes_on.ensures.next ∙ ap (λ (r : Bool). left_if r c.goes_on.new.context) c.if-not-goes_on.false))
    c.in_ok-add_step.ensures c.loop-turn.invariant.steps)))
    c.add_cycle.ensures

pub loop-turn-preserved : goal.loop-turn-preserved
loop-turn-preserved g c =
    let M = g.B.Body.meaning c.args.body.now in
    let code = c.args.code.instructions.now in
    let body = c.args.code.number in
    let all = stretch_steps M code body c.args.stretch.n c.args.stretch.from in
    let rest = stretch_steps M code body (c.args.stretch.n - (c.loop-turn.turn + 1)) c.goes_on.new.context in
    record {
      steps = gone_on 1 c.args.ways.now c.loop-turn.ways c.add_step.new.ways
          (stretch_steps M code body (c.args.stretch.n - c.loop-turn.turn) c.loop-turn.here)
          (step_here code body c.loop-turn.here) rest all
          (stretch_on M code body c.args.stretch.n c.loop-turn.turn c.loop-turn.here (Some c.goes_on.new.context)
          c.loop-turn-test.true
          (c.goes_on.ensures.next ∙ ap (λ (r : Bool). left_if r c.goes_on.new.context) c.if-not-goes_on.false))
          c.in_ok-add_step.ensures c.loop-turn.invariant.steps;
      context = c.goes_on.ensures.context c.if-not-goes_on.false;
      lap = c.at-lap.ensures M body
          (lap_on M body c.loop-turn.lap c.loop-turn.turn c.loop-turn.here c.goes_on.new.context
          c.loop-turn.invariant.lap
          (c.goes_on.ensures.next ∙ ap (λ (r : Bool). left_if r c.goes_on.new.context) c.if-not-goes_on.false));
    }

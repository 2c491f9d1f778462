use Rattle.std.proofs.Common.{◌+◌, ◌≤◌, arith, drop, refl}
use Rattle.fmp_kernel.proofs.Comings.{taken-step}
use Rattle.fmp_instructions.specs.Instructions.{code_tables}
use Rattle.fmp_looking.specs.Branches.{actor_steps, branch_steps, if_taken}
use Rattle.fmp_looking.proofs.BranchLemmas.{event_on, gone_on}
use Rattle.fmp_looking.proofs.branches.add_events.Goals as goal

pub loop-e-preserved : goal.loop-e-preserved
loop-e-preserved g c =
    let meaning = g.B.Body.meaning in
    let code = code_tables c.args.code.code.now in
    let before = c.loop-e.kernel in
    let after = c.take-effect.new.kernel in
    let events = c.args.events.now in
    let one : after.taken ≤ before.taken + 1 = taken-step before after _ c.take-effect.ensures.state in
    record {
      steps = gone_on 1 c.args.ways.now c.loop-e.ways c.add_event.new.ways
          (branch_steps meaning code before (drop c.loop-e.e-index events))
          (if_taken (actor_steps (meaning after.body) code after.bound c.event_actor-actor.result) c.take-effect.result)
          (branch_steps meaning code after (drop (c.loop-e.e-index + 1) events))
          (branch_steps meaning code c.args.kernel.now events)
          (event_on meaning code before after events c.loop-e.e-index _ _ c.take-effect.result
          c.event_actor-actor.result c.loop-e-test.true refl c.take-effect.ensures.state c.take-effect.ensures.effect
          c.event_actor-actor.ensures.value)
          c.in_ok-add_event.ensures c.loop-e.invariant.steps;
      few = omega arith;
    }

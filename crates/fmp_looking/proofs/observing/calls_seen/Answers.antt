use Rattle.std.proofs.Common.{arith, refl, ◌≤◌, ◌+◌}
use Rattle.fmp_kernel.proofs.Comings.{taken-step}
use Rattle.fmp_instructions.specs.Instructions.{code_tables}
use Rattle.fmp_looking.specs.Observed.{heard_of}
use Rattle.fmp_looking.proofs.HeardLemmas.{heard-step}
use Rattle.fmp_looking.proofs.observing.calls_seen.Goals as goal

pub loop-e-preserved : goal.loop-e-preserved
loop-e-preserved g c =
    let one : c.take-effect.new.kernel.taken ≤ c.loop-e.kernel.taken
    + 1 = taken-step c.loop-e.kernel c.take-effect.new.kernel _ c.take-effect.ensures.state in
    record {
      heard = heard-step g.B.Body.meaning (code_tables c.args.text.code.now) c.args.text.positions.now c.loop-e.kernel
          c.take-effect.new.kernel c.args.events.now c.loop-e.e-index _ _ _ _ _ (heard_of c.loop-e.heard) _ _
          c.loop-e-test.true refl c.take-effect.ensures.state c.take-effect.ensures.effect
          c.event_position-position.ensures c.lines.ensures c.in_ok-note.ensures c.loop-e.invariant.heard;
      few = omega arith;
    }

use Rattle.std.proofs.Common.{inl}
use Rattle.fmp_drive.proofs.DriveLemmas.{due_after}
use Rattle.fmp_drive.proofs.TurnLemmas.{not_due_before, tick_in_turn}
use Rattle.fmp_drive.proofs.driving.run_or_tick.Goals as goal

pub returns-in-Some-clause-turn : goal.returns-in-Some-clause-turn
returns-in-Some-clause-turn g c = inl c.in-Some.ensures.turn

pub returns-in-None : goal.returns-in-None
returns-in-None g c =
    record {
      taken =
          due_after g.B.Body.meaning c.tick_if_due.result c.args.kernel.now c.run_one.new.kernel
          c.tick_if_due.new.kernel
          c.args.processors c.in-None.ensures.taken c.tick_if_due.ensures.taken;
      turn =
          tick_in_turn g.B.Body.meaning c.tick_if_due.result c.args.kernel.now c.run_one.new.kernel c.args.plan.now
          c.args.first c.args.processors c.args.tasks c.in-None.ensures.taken c.tick_if_due.ensures.tick;
      none =
          not_due_before c.tick_if_due.result c.args.kernel.now c.run_one.new.kernel c.args.plan.now c.args.tasks
          c.in-None.ensures.taken.1 c.tick_if_due.ensures.none;
    }

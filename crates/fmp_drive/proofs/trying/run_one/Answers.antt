use Rattle.std.proofs.Common.{inl}
use Rattle.fmp_drive.proofs.TurnLemmas.{first_in_turn, taken_in_turn}
use Rattle.fmp_drive.proofs.trying.run_one.Goals as goal

pub returns-in-Some-clause-turn : goal.returns-in-Some-clause-turn
returns-in-Some-clause-turn g c = inl c.in-Some.ensures.first.1

pub returns-in-Some-clause-taken : goal.returns-in-Some-clause-taken
returns-in-Some-clause-taken g c = (c.in-Some.ensures.first.0, c.in-Some.ensures.step)

pub returns-in-None : goal.returns-in-None
returns-in-None g c =
    record {
      taken =
          taken_in_turn g.B.Body.meaning c.run_any.result c.args.kernel.now c.run_from.new.kernel c.run_any.new.kernel
          c.args.processors c.in-None.ensures.first.1 c.run_any.ensures.first c.run_any.ensures.step;
      turn =
          first_in_turn g.B.Body.meaning c.run_any.result c.args.kernel.now c.run_from.new.kernel c.run_any.new.kernel
          c.args.first c.args.processors c.in-None.ensures.first c.run_any.ensures.first;
    }

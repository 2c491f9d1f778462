use Rattle.std.proofs.Common.{◌-◌}
use Rattle.std.specs.List.{range_with_len}
use Rattle.fmp_base.specs.declared.events.Event.TheVariants as event
use Rattle.fmp_trials.specs.Taking.{takes_in}
use Rattle.fmp_trials.proofs.Choosing.{found_first, found_second, found_there}
use Rattle.fmp_trials.proofs.random_run.run_one.Goals as goal

pub returns-in-Some-clause-first : goal.returns-in-Some-clause-first
returns-in-Some-clause-first g c =
    found_first (λ p. takes_in g.B.Body.meaning c.args.kernel.now (event.Run p)) c.args.first c.args.last
    c.in-Some.processor c.run_from.result c.run_from.ensures.first c.in-Some.is

pub returns-in-None-clause-first : goal.returns-in-None-clause-first
returns-in-None-clause-first g c =
    found_second (λ p. takes_in g.B.Body.meaning c.args.kernel.now (event.Run p)) c.args.first c.args.last
    c.run_from.result c.run_from-in-None.result c.run_from.ensures.first c.in-None.is
    (found_there g.B.Body.meaning c.run_from.new.kernel c.args.kernel.now c.run_from-in-None.result
    (range_with_len 1 (c.args.first - 1)) c.in-None.ensures.stands c.run_from-in-None.ensures.first)

use Rattle.std.proofs.Common.{◌≡◌, ◌-◌}
use Rattle.std.specs.List.{find, range_with_len}
use Rattle.fmp_base.specs.declared.events.Event.TheVariants as event
use Rattle.fmp_trials.specs.Taking.{takes_in}
use Rattle.fmp_trials.proofs.random_run.run_from.Given as goal

-- none was found so far
abbrev pub invariant-loop-processor : goal.invariant-loop-processor
invariant-loop-processor g l =
    record {
      same : l.kernel ≡ l.fn.kernel;
      left :
          find (λ p. takes_in g.B.Body.meaning l.fn.kernel (event.Run p))
          (range_with_len l.processor (l.end - l.processor))
          ≡ find (λ p. takes_in g.B.Body.meaning l.fn.kernel (event.Run p))
          (range_with_len l.first (l.end - l.first));
    }

use Rattle.std.proofs.Common.{◌≡◌, drop}
use Rattle.fmp_trials.specs.Choices.{interrupt_of}
use Rattle.fmp_trials.specs.Taking.{takes_in}
use Rattle.fmp_trials.proofs.random_run.interrupt.Given as goal

-- none has come so far
abbrev pub invariant-loop-rate : goal.invariant-loop-rate
invariant-loop-rate g l =
    record {
      same : l.kernel ≡ l.fn.kernel;
      left :
          interrupt_of (takes_in g.B.Body.meaning l.fn.kernel) (drop l.rate-index l.rates) l.choices
          ≡ interrupt_of (takes_in g.B.Body.meaning l.fn.kernel) l.fn.choices.plan.interrupts.now l.fn.choices;
    }

use Rattle.std.proofs.Common.{◌≡◌, ◌<◌, ◌≤◌, false}
use Rattle.fmp_instructions.specs.Machine.{code_meaning}
use Rattle.fmp_trials.specs.Drawn.{AllHaveMet, any_of_end}
use Rattle.fmp_looking.specs.CallSentences.{breaks_by}
use Rattle.fmp_looking.specs.Tested.{subject_in}
use Rattle.fmp_looking.proofs.trying_beside.first_failing_beside.Given as goal

-- the seeds so far met what is expected, and each round has had some
abbrev pub invariant-loop-round : goal.invariant-loop-round
invariant-loop-round g l =
    record {
      met : any_of_end l.trials.expected.now ≡ false
          → AllHaveMet code_meaning breaks_by (subject_in l.trials) l.trials.plan 0 l.round.before;
      on : l._round ≤ l.round.before;
      each : 0 < l.round.each;
      jobs : 0 < l.round.jobs;
    }

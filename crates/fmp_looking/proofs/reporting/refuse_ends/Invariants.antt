use Rattle.std.proofs.Common.{◌≡◌, drop}
use Rattle.fmp_trials.specs.Drawn.{any_of_end}
use Rattle.fmp_looking.proofs.reporting.refuse_ends.Given as goal

abbrev pub invariant-loop-one : goal.invariant-loop-one
invariant-loop-one l = any_of_end (drop l.one-index l.expected) ≡ any_of_end l.expected

use Rattle.std.proofs.Common.{◌≡◌, ◌+◌, ℕ, Bool, if◌then◌else◌, nat_lt}
use Rattle.fmp_looking.specs.Ways.{capped, times_in}
use Rattle.fmp_looking.proofs.ways.BranchWays.add_all.Given as goal

abbrev pub invariant-loop-body : goal.invariant-loop-body
invariant-loop-body l =
    (b n : ℕ) (way : Bool) → times_in l.self b n way
    ≡ capped (times_in l.fn.self b n way + (if nat_lt b l.body then times_in l.others b n way else 0))

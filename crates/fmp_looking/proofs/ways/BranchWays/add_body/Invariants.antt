use Rattle.std.proofs.Common.{◌≡◌, ◌+◌, ◌==◌, ◌&&◌, ℕ, Bool, get_or, if◌then◌else◌, nat_lt}
use Rattle.fmp_looking.specs.Ways.{capped, never, times_in, times_of}
use Rattle.fmp_looking.proofs.ways.BranchWays.add_body.Given as goal

abbrev pub invariant-loop-number : goal.invariant-loop-number
invariant-loop-number l =
    (b n : ℕ) (way : Bool) → times_in l.self b n way
    ≡ capped (times_in l.fn.self b n way
    + (if (b == l.body) && nat_lt n l.number then times_of way (get_or l.branches n never) else 0))

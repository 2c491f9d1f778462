use Rattle.std.proofs.Common.{◌≡◌, ◌+◌, ◌-◌, ℕ, get_or, length}
use Rattle.fmp_looking.specs.Ways.{never}
use Rattle.fmp_looking.proofs.ways.grow_branches.Given as goal

abbrev pub invariant-loop-branches : goal.invariant-loop-branches
invariant-loop-branches l =
    (n : ℕ) → get_or l.branches.items n never ≡ get_or l.initial.branches.items n never

abbrev pub decreases-loop-branches : goal.decreases-loop-branches
decreases-loop-branches l = l.number + 1 - length l.branches.items

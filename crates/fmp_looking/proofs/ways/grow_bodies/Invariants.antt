use Rattle.std.proofs.Common.{◌≡◌, ◌+◌, ◌-◌, ℕ, length}
use Rattle.fmp_looking.specs.Ways.{branches_of}
use Rattle.fmp_looking.proofs.ways.grow_bodies.Given as goal

abbrev pub invariant-loop-alloc : goal.invariant-loop-alloc
invariant-loop-alloc l = (b : ℕ) → branches_of l.bodies.items b ≡ branches_of l.initial.bodies.items b

abbrev pub decreases-loop-alloc : goal.decreases-loop-alloc
decreases-loop-alloc l = l.body + 1 - length l.bodies.items

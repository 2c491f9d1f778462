use Rattle.std.proofs.Common.{◌≤◌}
use Rattle.fmp_fields.proofs.Places.{EachBefore}
use Rattle.fmp_fields.proofs.room.operands_of.Given as goal

abbrev pub invariant-loop-depth : goal.invariant-loop-depth
invariant-loop-depth l = EachBefore (λ depth. depth ≤ l.most) l.fn.body.depths.items l.depth-index

use Rattle.std.proofs.Common.{◌≡◌, take}
use Rattle.fmp_fields.proofs.field_plan.are_same.Given as goal

abbrev pub invariant-loop-k : goal.invariant-loop-k
invariant-loop-k l = take l.k l.a ≡ take l.k l.b

use Rattle.std.proofs.Common.{◌≡◌, None, replicate, vec_capacity}
use Rattle.fmp_contexts.proofs.contexts.empty_places.Given as goal

abbrev pub invariant-loop : goal.invariant-loop
invariant-loop g l =
    record { items : l.places.items ≡ replicate l.counter None; room : vec_capacity l.places ≡ l.count }

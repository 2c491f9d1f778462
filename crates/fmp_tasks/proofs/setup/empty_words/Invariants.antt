use Rattle.std.proofs.Common.{◌≡◌, [], replicate, vec_capacity}
use Rattle.fmp_tasks.proofs.setup.empty_words.Given as goal

abbrev pub invariant-loop : goal.invariant-loop
invariant-loop l = record { items : l.words.items ≡ replicate l.counter []; room : vec_capacity l.words ≡ l.queues }

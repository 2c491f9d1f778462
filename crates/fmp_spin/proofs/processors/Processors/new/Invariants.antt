use Rattle.std.proofs.Common.{◌≡◌, replicate, vec_capacity}
use Rattle.fmp_base.specs.States.{idle}
use Rattle.fmp_spin.proofs.processors.Processors.new.Given as goal

abbrev pub invariant-loop : goal.invariant-loop
invariant-loop l = record { items : l.table.items ≡ replicate l.counter idle; room : vec_capacity l.table ≡ l.count }

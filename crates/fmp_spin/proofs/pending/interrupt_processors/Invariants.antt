use Rattle.std.proofs.Common.{◌≡◌, ◌++◌, ◌+◌, ◌-◌, map, length, vec_capacity}
use Rattle.fmp_base.specs.States.{places_from}
use Rattle.fmp_base.specs.Systems.{defined_for}
use Rattle.fmp_spin.specs.Pending.{processor_of}
use Rattle.fmp_spin.proofs.pending.interrupt_processors.Given as goal

abbrev pub invariant-loop-i : goal.invariant-loop-i
invariant-loop-i l =
    record {
      items : l.processors.items ++ map (λ i. processor_of (defined_for (i + 1) l.configs))
          (places_from l.i (32 - l.i)) ≡ map (λ i. processor_of (defined_for (i + 1) l.configs)) (places_from 0 32);
      long : length l.processors.items ≡ l.i;
      room : vec_capacity l.processors ≡ 32;
    }

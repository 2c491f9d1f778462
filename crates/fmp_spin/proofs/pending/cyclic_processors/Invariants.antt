use Rattle.std.proofs.Common.{◌≡◌, ◌++◌, drop, map, length, vec_capacity}
use Rattle.fmp_base.specs.declared.systems.CyclicConfig.{CyclicConfig}
use Rattle.fmp_spin.proofs.pending.cyclic_processors.Given as goal

abbrev pub invariant-loop-config : goal.invariant-loop-config
invariant-loop-config l =
    record {
      items : l.processors.items ++ map (λ (c : CyclicConfig). c.processor) (drop l.config-index l.configs)
          ≡ map (λ (c : CyclicConfig). c.processor) l.configs;
      long : length l.processors.items ≡ l.config-index;
      room : vec_capacity l.processors ≡ length l.configs;
    }

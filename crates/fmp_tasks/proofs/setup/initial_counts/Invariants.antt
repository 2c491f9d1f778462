use Rattle.std.proofs.Common.{◌≡◌, ◌++◌, drop, map, length, vec_capacity}
use Rattle.fmp_base.specs.declared.systems.SemaphoreConfig.{SemaphoreConfig}
use Rattle.fmp_tasks.proofs.setup.initial_counts.Given as goal

abbrev pub invariant-loop-config : goal.invariant-loop-config
invariant-loop-config l =
    record {
      items : l.counts.items ++ map (λ (c : SemaphoreConfig). c.initial) (drop l.config-index l.configs)
          ≡ map (λ (c : SemaphoreConfig). c.initial) l.configs;
      long : length l.counts.items ≡ l.config-index;
      room : vec_capacity l.counts ≡ length l.configs;
    }

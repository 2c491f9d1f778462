use Rattle.std.proofs.Common.{◌≡◌, ◌++◌, drop, map, length, vec_capacity}
use Rattle.fmp_base.specs.declared.systems.FlagConfig.{FlagConfig}
use Rattle.fmp_tasks.proofs.setup.initial_patterns.Given as goal

abbrev pub invariant-loop-config : goal.invariant-loop-config
invariant-loop-config l =
    record {
      items : l.patterns.items ++ map (λ (c : FlagConfig). c.initial) (drop l.config-index l.configs)
          ≡ map (λ (c : FlagConfig). c.initial) l.configs;
      long : length l.patterns.items ≡ l.config-index;
      room : vec_capacity l.patterns ≡ length l.configs;
    }

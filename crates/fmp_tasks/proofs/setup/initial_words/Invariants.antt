use Rattle.std.proofs.Common.{◌≡◌, ◌++◌, drop, map, length, vec_capacity}
use Rattle.fmp_base.specs.declared.systems.SharedWordConfig.{SharedWordConfig}
use Rattle.fmp_tasks.proofs.setup.initial_words.Given as goal

abbrev pub invariant-loop-config : goal.invariant-loop-config
invariant-loop-config l =
    record {
      items : l.words.items ++ map (λ (c : SharedWordConfig). c.initial) (drop l.config-index l.configs)
          ≡ map (λ (c : SharedWordConfig). c.initial) l.configs;
      long : length l.words.items ≡ l.config-index;
      room : vec_capacity l.words ≡ length l.configs;
    }

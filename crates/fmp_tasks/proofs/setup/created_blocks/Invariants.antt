use Rattle.std.proofs.Common.{◌≡◌, ◌++◌, drop, map, length, vec_capacity}
use Rattle.fmp_base.specs.Setups.{created}
use Rattle.fmp_tasks.proofs.setup.created_blocks.Given as goal

abbrev pub invariant-loop-config : goal.invariant-loop-config
invariant-loop-config l =
    record {
      items : l.blocks.items ++ map created (drop l.config-index l.configs) ≡ map created l.configs;
      long : length l.blocks.items ≡ l.config-index;
      room : vec_capacity l.blocks ≡ length l.configs;
    }

use Rattle.std.proofs.Common.{ℕ, ◌<◌}
use Rattle.fmp_base.specs.Systems.{data_queue_config, tables_of}
use Rattle.fmp_fields.specs.Listing.{AreAmong, HasQueue}
use Rattle.fmp_fields.proofs.listing.add_data_queues.Given as goal

abbrev pub invariant-loop-d : goal.invariant-loop-d
invariant-loop-d l =
    record {
      kept : AreAmong l.fn.fields.items l.fields.items;
      added : (d : ℕ) → d < l.d → HasQueue d (data_queue_config (tables_of l.fn.sys) d).capacity l.fields.items;
    }

use Rattle.std.proofs.Common.{◌≡◌, ◌+◌, ◌*◌, ◌^◌, drop}
use Rattle.fmp_visited.specs.Rows.{mask_of}
use Rattle.fmp_visited.proofs.packing.group_mask.Given as goal

abbrev pub invariant-loop-k : goal.invariant-loop-k
invariant-loop-k l =
    record {
      told : l.mask + l.bit * mask_of (drop l.k l.first) (drop l.k l.values) ≡ mask_of l.first l.values;
      unit : l.bit ≡ 2 ^ l.k;
    }

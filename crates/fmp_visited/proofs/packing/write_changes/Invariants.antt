use Rattle.std.proofs.Common.{◌≡◌, ◌≤◌, ◌+◌, ◌*◌, ◌++◌, drop, length, take}
use Rattle.fmp_visited.specs.Rows.{changes_of, mask_of}
use Rattle.fmp_visited.proofs.packing.write_changes.Given as goal

abbrev pub invariant-loop-change : goal.invariant-loop-change
invariant-loop-change l =
    record {
      done : l._change ≤ l.field;
      long : length l.row ≡ length l.fn.row;
      room : l.end ≤ l.fn.at + 5 * l._change;
      mask : l.bits ≡ mask_of (drop l.field l.first) (drop l.field l.values);
      told :
          take l.end l.row ++ changes_of (drop l.field l.first) (drop l.field l.values)
          ≡ take l.fn.at l.fn.row ++ changes_of l.first l.values;
    }

use Rattle.std.proofs.Common.{◌≡◌, ◌≤◌, ◌++◌, ◌+◌, ◌-◌, ◌*◌, ◌/◌, length, take}
use Rattle.fmp_visited.specs.Rows.{groups_from, row_of}
use Rattle.fmp_visited.proofs.packing.pack.Given as goal

abbrev pub invariant-loop-group : goal.invariant-loop-group
invariant-loop-group l =
    record {
      long : length l.block ≡ 256;
      room : l.end ≤ 256;
      told :
          (l.row.items ++ take l.end l.block)
          ++ groups_from (length l.first / 8 + 1 - l.group) (l.group * 8) l.first l.values
          ≡ row_of l.first l.values;
    }

abbrev pub invariant-loop-part : goal.invariant-loop-part
invariant-loop-part l =
    record {
      long : length l.block ≡ 256;
      room : l.end ≤ 256;
      told :
          (l.row.items ++ take l.end l.block)
          ++ groups_from (length l.first / 8 + 1 - l.part) (l.part * 8) l.first l.values
          ≡ row_of l.first l.values;
    }

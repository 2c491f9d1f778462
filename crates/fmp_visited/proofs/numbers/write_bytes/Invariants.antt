use Rattle.std.proofs.Common.{◌≡◌, ◌++◌, ◌+◌, ◌-◌, length, take}
use Rattle.fmp_visited.specs.Rows.{bytes_of, number_in}
use Rattle.fmp_visited.proofs.numbers.write_bytes.Given as goal

abbrev pub invariant-loop-byte : goal.invariant-loop-byte
invariant-loop-byte l =
    record {
      long : length l.row ≡ length l.fn.row;
      place : l.end ≡ l.fn.at + l._byte;
      told :
          take l.end l.row ++ number_in (5 - l._byte) l.rest ≡ take l.fn.at l.fn.row ++ bytes_of l.fn.number;
    }

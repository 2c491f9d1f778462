use Rattle.std.proofs.Common.{◌≡◌, ◌<◌, ◌^◌, ◌++◌, ℕ, List, drop}
use Rattle.fmp_visited.specs.Rows.{bytes_of}
use Rattle.fmp_visited.proofs.ReadingLemmas.{IsReading}
use Rattle.fmp_visited.proofs.numbers.number_from.Given as goal

abbrev pub invariant-loop-byte : goal.invariant-loop-byte
invariant-loop-byte l =
    record {
      power : l.unit ≡ 128 ^ l._byte;
      small : l.number < l.unit;
      reads : (number : ℕ) (rest : List ℕ) → drop l.fn.place l.row ≡ bytes_of number ++ rest
          → IsReading l.row l._byte l.number l.unit l.at number rest;
    }

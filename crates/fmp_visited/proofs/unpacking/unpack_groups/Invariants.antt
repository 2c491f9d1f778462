use Rattle.std.proofs.Common.{◌≡◌, List, ℕ, length, true}
use Rattle.fmp_visited.specs.Rows.{AreValues, row_of}
use Rattle.fmp_visited.proofs.ExactLemmas.{AreGroupsRead}
use Rattle.fmp_visited.proofs.ReadingLemmas.{AreUnpacked}
use Rattle.fmp_visited.proofs.unpacking.unpack_groups.Given as goal

abbrev pub invariant-loop-group : goal.invariant-loop-group
invariant-loop-group l =
    record {
      long : length l.values ≡ length l.fn.values;
      told :
          (v : List ℕ) → length v ≡ length l.fn.values → AreValues v → l.row ≡ row_of l.fn.values v →
          AreUnpacked l.row l.fn.values v l.values l.group l.at;
      read : l.exact ≡ true → AreGroupsRead l.row l.fn.values l.values l.group l.at;
    }

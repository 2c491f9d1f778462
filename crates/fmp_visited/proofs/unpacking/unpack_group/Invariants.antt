use Rattle.std.proofs.Common.{◌≡◌, ◌≤◌, ◌++◌, List, ℕ, drop, length, true}
use Rattle.fmp_visited.specs.Rows.{AreValues, changes_of, mask_of}
use Rattle.fmp_visited.proofs.ChangeLemmas.{IsUnpacking}
use Rattle.fmp_visited.proofs.ExactLemmas.{AreRead}
use Rattle.fmp_visited.proofs.unpacking.unpack_group.Given as goal

abbrev pub invariant-loop-change : goal.invariant-loop-change
invariant-loop-change l =
    record {
      done : l._change ≤ l.field;
      within : l.field ≤ length l.values;
      long : length l.values ≡ length l.fn.values;
      told :
          (v rest : List ℕ) → length v ≡ length l.fn.values → AreValues v → l.fn.mask ≡ mask_of l.fn.values v →
          drop l.fn.place l.row ≡ changes_of l.fn.values v ++ rest →
          IsUnpacking l.row l.fn.values v l.values l.field l.bits l.at rest;
      read : l.exact ≡ true → AreRead l.row l.fn.values l.values l.fn.place l.fn.mask l.field l.bits l.at;
    }

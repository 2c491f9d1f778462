use Rattle.std.proofs.Common.{◌≡◌, ◌+◌, ◌<◌, ℕ, List, Some, slice_get, true}
use Rattle.fmp_explore.specs.Searching.{Grows}
use Rattle.fmp_explore.specs.Slices.{IsAmong}
use Rattle.fmp_explore.proofs.searches.Search.enter_all_own.Given as goal

abbrev pub invariant-loop-place : goal.invariant-loop-place
invariant-loop-place l =
    record {
      grows : Grows l.fn.self l.self;
      each :
          l.self.sure ≡ true → (k : ℕ) (row : List ℕ) → l.slice.span.first + k < l.place →
          slice_get l.slice.search.seen.rows k ≡ Some row → IsAmong l.self.seen.rows row;
    }

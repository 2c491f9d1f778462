-- What is said of the responses to the requests of a handler.
use Rattle.std.specs.Prelude.{◌≡◌, ℕ, ◌-◌, ◌/◌, List, Bool, get_or, length, map, nat_eq}
use Rattle.std.specs.List.{filter}
use Rattle.std.specs.List.Sorted.{IsPermutation, IsSorted}
use Rattle.std.specs.Ordering.{nat_cmp}
use Rattle.fmp_base.specs.declared.states.Handler.{Handler}
use Rattle.fmp_frames.specs.declared.responses.Response.{Response}
use Rattle.fmp_frames.specs.declared.summaries.ResponseSummary.{ResponseSummary}
use Rattle.fmp_frames.specs.Responses.{place_of}

abbrev pub is_to : Handler → Response → Bool
is_to h r = nat_eq (place_of r.handler) (place_of h)

-- how long the responses to the requests of a handler took
abbrev pub times_of : Handler → List Response → List ℕ
times_of h rs = map (λ r. r.micros) (filter (is_to h) rs)

-- of times in order: how many they are, the one in the middle (the lower of two), and the last
pub record IsSummary (sorted : List ℕ) (x : ResponseSummary) : Type 0 where
  pub count : x.count ≡ length sorted
  pub median : x.median ≡ get_or sorted ((length sorted - 1) / 2) 0
  pub worst : x.worst ≡ get_or sorted (length sorted - 1) 0

-- the same of times in any order
pub record Summarizes (x : ResponseSummary) (times : List ℕ) : Type 0 where
  pub sorted : List ℕ
  pub permuted : IsPermutation times sorted
  pub in_order : IsSorted nat_cmp sorted
  pub is_summary : IsSummary sorted x

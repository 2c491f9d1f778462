use Rattle.std.proofs.Common.{ℕ, ◌<◌, ◌≤◌, slice_index}
use Rattle.fmp_diagnosis.proofs.nearness.first_least.Given as goal

abbrev pub invariant-loop-i : goal.invariant-loop-i
invariant-loop-i l = record {
  within : l.least < l.i;
  before : (j : ℕ) → j < l.least → slice_index l.numbers l.least < slice_index l.numbers j;
  least : (j : ℕ) → j < l.i → slice_index l.numbers l.least ≤ slice_index l.numbers j;
}

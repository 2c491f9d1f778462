use Rattle.std.proofs.Common.{◌≡◌, ℕ, ◌<◌, ◌≤◌, ◌==◌, false, slice_index}
use Rattle.fmp_server.proofs.positions.line_begin.Given as goal

abbrev pub invariant-back : goal.invariant-back
invariant-back l = record {
  from : l.begin ≤ l.at;
  one : (k : ℕ) → l.begin ≤ k → k < l.at → (slice_index l.text k == 10) ≡ false;
}

abbrev pub decreases-back : goal.decreases-back
decreases-back l = l.begin

use Rattle.std.proofs.Common.{◌≡◌, ℕ, ◌<◌, ◌≤◌, ◌==◌, false, slice_index}
use Rattle.fmp_diagnosis.proofs.excerpt.line_finish.Given as goal

abbrev pub invariant-loop-i : goal.invariant-loop-i
invariant-loop-i l = (k : ℕ) → l.at ≤ k → k < l.i → (slice_index l.text k == 10) ≡ false

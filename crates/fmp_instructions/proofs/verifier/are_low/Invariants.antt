use Rattle.std.proofs.Common.{◌≡◌, ℕ, ◌<◌, ◌≤◌, Some}
use Rattle.std.specs.Prelude.{slice_get}
use Rattle.fmp_instructions.proofs.verifier.are_low.Given as goal

abbrev pub invariant-loop-depth : goal.invariant-loop-depth
invariant-loop-depth l = (k d : ℕ) → k < l.depth-index → slice_get l.depths k ≡ Some d → d ≤ 64

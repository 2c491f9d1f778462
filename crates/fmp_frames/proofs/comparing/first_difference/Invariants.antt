use Rattle.std.proofs.Common.{◌≡◌, ℕ, ◌<◌}
use Rattle.std.specs.Prelude.{slice_get}
use Rattle.fmp_frames.specs.Compares.{events_of}
use Rattle.fmp_frames.proofs.comparing.first_difference.Given as goal

abbrev pub invariant-loop-number : goal.invariant-loop-number
invariant-loop-number l = (i : ℕ) → i < l.number → slice_get (events_of l.a) i ≡ slice_get (events_of l.b) i

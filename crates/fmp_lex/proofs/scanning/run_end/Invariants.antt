use Rattle.std.proofs.Common.{◌≡◌, ℕ, ◌<◌, ◌≤◌, true, slice_index}
use Rattle.fmp_lex.specs.Scanning.{in_class}
use Rattle.fmp_lex.proofs.scanning.run_end.Given as goal

abbrev pub invariant-loop-i : goal.invariant-loop-i
invariant-loop-i l = (k : ℕ) → l.from ≤ k → k < l.i → in_class l.class (slice_index l.text k) ≡ true

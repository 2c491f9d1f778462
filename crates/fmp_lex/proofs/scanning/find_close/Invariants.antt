use Rattle.std.proofs.Common.{ℕ, ◌<◌, ◌≤◌}
use Rattle.fmp_lex.specs.Scanning.{Closes}
use Rattle.fmp_lex.proofs.scanning.find_close.Given as goal

abbrev pub invariant-loop-i : goal.invariant-loop-i
invariant-loop-i l = (k : ℕ) → l.from ≤ k → k < l.i → Closes l.text k → ⊥

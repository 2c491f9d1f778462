use Rattle.std.proofs.Common.{◌<◌, ℕ}
use Rattle.fmp_live.specs.LiveLocals.{KeepsGoes, live_table}
use Rattle.fmp_live.proofs.judging.all_keep_goes.Given as goal

abbrev pub invariant-loop-place : goal.invariant-loop-place
invariant-loop-place l = (k : ℕ) → k < l.place → KeepsGoes l.code (live_table l.rows) k

use Rattle.std.proofs.Common.{◌<◌, ℕ}
use Rattle.fmp_live.specs.LiveLocals.{KeepsAwaits, live_table}
use Rattle.fmp_live.proofs.judging.all_keep_awaits.Given as goal

abbrev pub invariant-loop-place : goal.invariant-loop-place
invariant-loop-place l = (k : ℕ) → k < l.place → KeepsAwaits l.outs l.code (live_table l.rows) k

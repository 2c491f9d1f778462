use Rattle.std.proofs.Common.{◌≡◌, ◌<◌, ℕ, true, false, get_or}
use Rattle.fmp_live.specs.LiveLocals.{is_awaited, live_table}
use Rattle.fmp_live.proofs.judging.keeps_awaits.Given as goal

abbrev pub invariant-loop-local : goal.invariant-loop-local
invariant-loop-local l =
    (v : ℕ) → v < l.local → get_or l.live-items v true ≡ false →
    is_awaited l.outs (live_table l.rows) l.code l.place v ≡ false

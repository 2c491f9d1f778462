use Rattle.std.proofs.Common.{◌≡◌, ◌<◌, ◌≤◌, ℕ, None, false}
use Rattle.fmp_base.specs.Systems.{interrupt_config}
use Rattle.fmp_base.specs.Ticks.{is_pending}
use Rattle.fmp_reachable.proofs.soundness.is_quiet.Given as goal

abbrev pub invariant-loop-number : goal.invariant-loop-number
invariant-loop-number l =
    record {
      few : l.pending ≤ l.number;
      none : l.pending ≡ 0 → (j : ℕ) → j < l.number → is_pending l.tables.state.pending_interrupts j ≡ false;
    }

abbrev pub invariant-loop-i : goal.invariant-loop-i
invariant-loop-i l =
    (j : ℕ) → j < l.i → interrupt_config l.tables.system j ≡ None
    → is_pending l.tables.state.pending_interrupts j ≡ false

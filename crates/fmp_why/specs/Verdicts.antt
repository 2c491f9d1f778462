-- How the tasks of a system stand.
use Rattle.std.specs.Prelude.{ℕ, List, Option, Some, None, Bool, true, false, not, ◌||◌, position}
use Rattle.fmp_base.specs.declared.states.Phase.{Phase}
use Rattle.fmp_base.specs.declared.states.Phase.TheVariants as phase
use Rattle.fmp_base.specs.declared.states.TaskBlock.{TaskBlock}
use Rattle.fmp_why.specs.declared.obstacles.SpinWait.{SpinWait}
use Rattle.fmp_why.specs.declared.verdicts.SystemVerdict.{SystemVerdict}
use Rattle.fmp_why.specs.declared.verdicts.SystemVerdict.TheVariants as verdict
use Rattle.fmp_why.specs.Cycles.{first_on_cycle}

abbrev pub is_dormant : Phase → Bool
is_dormant phase.Dormant = true
is_dormant _ = false

abbrev pub is_waiting : Phase → Bool
is_waiting (phase.Waiting c) = true
is_waiting _ = false

-- a task is started
abbrev pub is_started : TaskBlock → Bool
is_started b = not (is_dormant b.phase)

-- a task waits or is suspended
abbrev pub is_held_up : TaskBlock → Bool
is_held_up b = is_waiting b.phase || b.suspended

abbrev pub is_spin : Option SpinWait → Bool
is_spin None = false
is_spin (Some s) = true

-- of tasks of which the first that is held up is this, and of actors of which the first that spins is this
abbrev pub stuck_or_free : (held spins : Option ℕ) → SystemVerdict
stuck_or_free (Some t) spins = verdict.HeldUp
stuck_or_free None (Some p) = verdict.HeldUp
stuck_or_free None None = verdict.Free

-- if some task waits for itself it is a deadlock
abbrev pub cycle_or : Option ℕ → SystemVerdict → SystemVerdict
cycle_or (Some t) other = verdict.Deadlock t
cycle_or None other = other

-- if no task is started all have ended
abbrev pub ended_or : Option ℕ → SystemVerdict → SystemVerdict
ended_or None other = verdict.Ended
ended_or (Some t) other = other

-- how tasks stand, of which each waits for the one that `blockers` has
abbrev pub verdict_of : List TaskBlock → List (Option SpinWait) → (blockers : List (Option ℕ)) → SystemVerdict
verdict_of blocks spins blockers =
    ended_or (position is_started blocks)
    (cycle_or (first_on_cycle blockers) (stuck_or_free (position is_held_up blocks) (position is_spin spins)))

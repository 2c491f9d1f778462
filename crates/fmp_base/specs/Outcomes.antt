-- The outcome of a service call, and the tests of its arguments (uITRON 4.0, section 2.1).
use Rattle.std.specs.Prelude.{ℕ, zero, suc, ◌^◌, ℤ, pos, negsuc, Option, Some, None, Bool, true, false, nat_lt, nat_le}
use Rattle.std.specs.Prelude.{if◌then◌else◌}
use Rattle.fmp_base.specs.declared.calls.Answer.{Answer}
use Rattle.fmp_base.specs.declared.calls.Answer.TheVariants.{Replies, Waits}
use Rattle.fmp_base.specs.declared.calls.Reply.{Reply}
use Rattle.fmp_base.specs.declared.codes.Er.{Er}
use Rattle.fmp_base.specs.declared.codes.Er.TheVariants as er
use Rattle.fmp_base.specs.declared.states.Phase.TheVariants.{Waiting}
use Rattle.fmp_base.specs.declared.states.TaskBlock.{TaskBlock}
use Rattle.fmp_base.specs.declared.states.TimeLimit.{TimeLimit}
use Rattle.fmp_base.specs.declared.states.TimeLimit.TheVariants as limit
use Rattle.fmp_base.specs.declared.states.WaitCause.{WaitCause}
use Rattle.fmp_base.specs.States.{KernelState, Progress, unchanged, clock_after, task_at, with_last}

-- the answer, and the state after the call with the lines of what it caused
pub record CallOutcome : Type 0 where
  pub answer : Answer
  pub progress : Progress

-- a reply that is only a code
abbrev pub code : Er → Reply
code e = record { code = e; value = None }

-- E_OK with a value
abbrev pub given : ℤ → Reply
given v = record { code = er.Ok; value = Some v }

-- the call is refused with a code, and nothing changes
abbrev pub refused : KernelState → Er → CallOutcome
refused s e = record { answer = Replies (code e); progress = unchanged s }

-- E_OK, after this progress
abbrev pub succeeds : Progress → CallOutcome
succeeds g = record { answer = Replies (code er.Ok); progress = g }

-- E_OK, in this state
abbrev pub succeeds_in : KernelState → CallOutcome
succeeds_in s = succeeds (unchanged s)

-- E_OK with a value, after this progress
abbrev pub gives : ℤ → Progress → CallOutcome
gives v g = record { answer = Replies (given v); progress = g }

-- the caller, task t, which is x, waits at the end of the order
abbrev pub waits : KernelState → ℕ → TaskBlock → WaitCause → Option ℕ → CallOutcome
waits s t x c deadline =
    record
    { answer = Waits; progress = unchanged (with_last s t (record x { phase = Waiting c; deadline = deadline })) }

-- the caller waits within a limit; a poll fails and changes nothing
abbrev pub waits_within : TimeLimit → KernelState → ℕ → TaskBlock → WaitCause → CallOutcome
waits_within limit.Forever s t x c = waits s t x c None
waits_within limit.Poll s t x c = refused s er.Tmout
waits_within (limit.Ticks n) s t x c = waits s t x c (Some (clock_after s n))

-- the time limit that a number states: -1 is none, 0 polls, the greatest is 2^30
abbrev pub limit_of : ℤ → Option TimeLimit
limit_of (pos zero) = Some limit.Poll
limit_of (pos (suc n)) = if nat_lt n (2 ^ 30) then Some (limit.Ticks (suc n)) else None
limit_of (negsuc zero) = Some limit.Forever
limit_of (negsuc (suc n)) = None

-- the place that a number from 1 to the count names
abbrev pub numbered : ℕ → ℤ → Option ℕ
numbered count (pos zero) = None
numbered count (pos (suc n)) = if nat_lt n count then Some n else None
numbered count (negsuc n) = None

-- the same for a task, where 0 (TSK_SELF) is the caller
abbrev pub named : ℕ → ℕ → ℤ → Option ℕ
named me count (pos zero) = Some me
named me count (pos (suc n)) = if nat_lt n count then Some n else None
named me count (negsuc n) = None

-- a number from low to high
abbrev pub ranged : ℕ → ℕ → ℤ → Option ℕ
ranged low high (pos n) = if nat_le low n then (if nat_le n high then Some n else None) else None
ranged low high (negsuc n) = None

-- goes on with what a test of an argument gave, or is refused with the code of that test
abbrev pub tested : {A : Type 0} → KernelState → Er → Option A → (A → CallOutcome) → CallOutcome
tested s e None go = refused s e
tested s e (Some a) go = go a

-- is refused with a code where a test holds, else goes on
abbrev pub refused_if : Bool → KernelState → Er → CallOutcome → CallOutcome
refused_if true s e o = refused s e
refused_if false s e o = o

-- goes on with task t and its block, or is refused with E_ID
abbrev pub on_task : KernelState → Option ℕ → (ℕ → TaskBlock → CallOutcome) → CallOutcome
on_task s None go = refused s er.Id
on_task s (Some t) go = go t (task_at s.tasks t)

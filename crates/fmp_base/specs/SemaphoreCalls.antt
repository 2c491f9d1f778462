-- The service calls on semaphores and shared words (uITRON 4.0, section 4.4.1). Shared words are this
-- kernel's own.
use Rattle.std.specs.Prelude.{ℕ, zero, suc, ◌+◌, ℤ, Option, Some, None, length, nat_lt, slice_set, get_or, pos}
use Rattle.std.specs.Prelude.{if◌then◌else◌}
use Rattle.fmp_base.specs.declared.codes.Er.TheVariants as er
use Rattle.fmp_base.specs.declared.states.TaskBlock.{TaskBlock}
use Rattle.fmp_base.specs.declared.states.TimeLimit.{TimeLimit}
use Rattle.fmp_base.specs.declared.states.WaitCause.TheVariants as cause
use Rattle.fmp_base.specs.declared.states.WaitQueue.TheVariants as queue
use Rattle.fmp_base.specs.Changes.{released}
use Rattle.fmp_base.specs.Outcomes.{CallOutcome, code, refused, succeeds, succeeds_in, gives, waits_within, limit_of}
use Rattle.fmp_base.specs.Outcomes.{numbered, tested}
use Rattle.fmp_base.specs.Queues.{first_waiting}
use Rattle.fmp_base.specs.States.{KernelState, unchanged, task_at}
use Rattle.fmp_base.specs.Systems.{SystemTables, semaphore_config}

abbrev pub with_count : KernelState → ℕ → ℕ → KernelState
with_count s i count = record s { semaphores = slice_set s.semaphores i count }

-- the first waiting task is released; with none the count rises, up to its limit
abbrev pub signalled_to : Option ℕ → SystemTables → KernelState → ℕ → ℕ → CallOutcome
signalled_to (Some t) sys s i count = succeeds (released (unchanged s) t (task_at s.tasks t) (code er.Ok))
signalled_to None sys s i count =
    if nat_lt count (semaphore_config sys i).most then succeeds_in (with_count s i (count + 1)) else refused s er.Qovr

abbrev pub signalled : SystemTables → KernelState → ℕ → CallOutcome
signalled sys s i = signalled_to (first_waiting sys s (queue.Semaphore i)) sys s i (get_or s.semaphores i 0)

-- sig_sem and isig_sem
abbrev pub sig_sem : SystemTables → KernelState → ℤ → CallOutcome
sig_sem sys s i = tested s er.Id (numbered (length s.semaphores) i) (signalled sys s)

-- a resource is taken where the count is above 0, else the caller waits within a limit
abbrev pub acquired_by : ℕ → KernelState → ℕ → TaskBlock → TimeLimit → ℕ → CallOutcome
acquired_by zero s me x limit i = waits_within limit s me x (cause.Semaphore i)
acquired_by (suc n) s me x limit i = succeeds_in (with_count s i n)

abbrev pub acquired : KernelState → ℕ → TaskBlock → TimeLimit → ℕ → CallOutcome
acquired s me x limit i = acquired_by (get_or s.semaphores i 0) s me x limit i

-- wai_sem and pol_sem
abbrev pub wai_sem : KernelState → ℕ → TaskBlock → TimeLimit → ℤ → CallOutcome
wai_sem s me x limit i = tested s er.Id (numbered (length s.semaphores) i) (acquired s me x limit)

abbrev pub twai_sem : KernelState → ℕ → TaskBlock → ℤ → ℤ → CallOutcome
twai_sem s me x i tmout =
    tested s er.Id (numbered (length s.semaphores) i)
    (λ n. tested s er.Par (limit_of tmout) (λ limit. acquired s me x limit n))

abbrev pub ld_shr : KernelState → ℤ → CallOutcome
ld_shr s w =
    tested s er.Id (numbered (length s.shared_words) w) (λ n. gives (get_or s.shared_words n (pos 0)) (unchanged s))

abbrev pub st_shr : KernelState → ℤ → ℤ → CallOutcome
st_shr s w v =
    tested s er.Id (numbered (length s.shared_words) w)
    (λ n. succeeds_in (record s { shared_words = slice_set s.shared_words n v }))

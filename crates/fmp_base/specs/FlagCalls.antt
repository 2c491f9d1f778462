-- The service calls on eventflags (uITRON 4.0, section 4.4.2).
use Rattle.std.specs.Prelude.{ℕ, zero, suc, ℤ, pos, negsuc, List, [], ◌∷◌, Option, Some, None, Bool, true, false, not}
use Rattle.std.specs.Prelude.{◌&&◌, length, nat_eq, slice_set, get_or, bit_and, bit_or}
use Rattle.fmp_base.specs.declared.codes.Er.TheVariants as er
use Rattle.fmp_base.specs.declared.states.FlagMode.{FlagMode}
use Rattle.fmp_base.specs.declared.states.FlagMode.TheVariants as modes
use Rattle.fmp_base.specs.declared.states.Phase.{Phase}
use Rattle.fmp_base.specs.declared.states.Phase.TheVariants.{Dormant, Ready, Waiting}
use Rattle.fmp_base.specs.declared.states.TaskBlock.{TaskBlock}
use Rattle.fmp_base.specs.declared.states.TimeLimit.{TimeLimit}
use Rattle.fmp_base.specs.declared.states.WaitCause.{WaitCause}
use Rattle.fmp_base.specs.declared.states.WaitCause.TheVariants as cause
use Rattle.fmp_base.specs.declared.states.WaitQueue.TheVariants as queue
use Rattle.fmp_base.specs.Changes.{released}
use Rattle.fmp_base.specs.Outcomes.{CallOutcome, given, succeeds, succeeds_in, gives, waits_within, limit_of, numbered}
use Rattle.fmp_base.specs.Outcomes.{ranged, tested, refused_if}
use Rattle.fmp_base.specs.Queues.{wait_queue}
use Rattle.fmp_base.specs.States.{KernelState, Progress, unchanged, task_at}
use Rattle.fmp_base.specs.Systems.{SystemTables, flag_config}

abbrev pub with_pattern : KernelState → ℕ → ℕ → KernelState
with_pattern s f bits = record s { flags = slice_set s.flags f bits }

abbrev pub pattern_at : KernelState → ℕ → ℕ
pattern_at s f = get_or s.flags f 0

-- whether bits satisfy a wait for a pattern: all of its bits, or any
abbrev pub satisfies : FlagMode → ℕ → ℕ → Bool
satisfies modes.And pattern bits = nat_eq (bit_and bits pattern) pattern
satisfies modes.Or pattern bits = not (nat_eq (bit_and bits pattern) 0)

abbrev pub cause_satisfied : WaitCause → ℕ → Bool
cause_satisfied (cause.Flag f pattern mode) bits = satisfies mode pattern bits
cause_satisfied _ bits = false

-- whether bits satisfy a task of this phase
abbrev pub is_satisfied : Phase → ℕ → Bool
is_satisfied Dormant bits = false
is_satisfied Ready bits = false
is_satisfied (Waiting c) bits = cause_satisfied c bits

abbrev pub all_cleared : Progress → ℕ → Progress
all_cleared g f = record g { state = with_pattern g.state f 0 }

-- after one waiting task: it stays, or is released and the walk goes on, or is released, all bits are
-- cleared and the walk ends
abbrev pub walked : (satisfied clears : Bool) → ℕ → Progress → Progress → (Progress → Progress) → Progress
walked false clears f g after rest = rest g
walked true false f g after rest = rest after
walked true true f g after rest = all_cleared after f

-- the waiting tasks that the bits satisfy are released with the pattern, in the order of their queue
abbrev pub walk : (clears : Bool) → ℕ → ℕ → List ℕ → Progress → Progress
walk clears f bits [] g = g
walk clears f bits (t ∷ ts) g =
    let x = task_at g.state.tasks t in
    walked (is_satisfied x.phase bits) clears f g (released g t x (given (pos bits))) (λ h. walk clears f bits ts h)

abbrev pub bits_set : SystemTables → KernelState → ℕ → ℕ → Progress
bits_set sys s f bits =
    walk (flag_config sys f).clears f bits (wait_queue sys s (queue.Flag f)) (unchanged (with_pattern s f bits))

-- set_flg and iset_flg
abbrev pub set_flg : SystemTables → KernelState → ℤ → ℤ → CallOutcome
set_flg sys s f b =
    tested s er.Id (numbered (length s.flags) f)
    (λ i. tested s er.Par (ranged 0 65535 b) (λ bits. succeeds (bits_set sys s i (bit_or (pattern_at s i) bits))))

abbrev pub clr_flg : KernelState → ℤ → ℤ → CallOutcome
clr_flg s f b =
    tested s er.Id (numbered (length s.flags) f) (λ i. tested s er.Par (ranged 0 65535 b)
    (λ bits. succeeds_in (with_pattern s i (bit_and (pattern_at s i) bits))))

-- 0 is TWF_ANDW, 1 is TWF_ORW
abbrev pub mode_of : ℤ → Option FlagMode
mode_of (pos zero) = Some modes.And
mode_of (pos (suc zero)) = Some modes.Or
mode_of (pos (suc (suc n))) = None
mode_of (negsuc n) = None

abbrev pub is_empty : List ℕ → Bool
is_empty [] = true
is_empty (t ∷ ts) = false

-- the caller gets the pattern, which is then cleared where the flag has TA_CLR
abbrev pub obtained : Bool → KernelState → ℕ → CallOutcome
obtained true s f = gives (pos (pattern_at s f)) (unchanged (with_pattern s f 0))
obtained false s f = gives (pos (pattern_at s f)) (unchanged s)

abbrev pub awaited_by : Bool → SystemTables → KernelState → ℕ → TaskBlock → TimeLimit → (f pattern : ℕ) → FlagMode
    → CallOutcome
awaited_by true sys s me x limit f pattern mode = obtained (flag_config sys f).clears s f
awaited_by false sys s me x limit f pattern mode = waits_within limit s me x (cause.Flag f pattern mode)

-- without TA_WMUL only one task may wait
abbrev pub awaited : SystemTables → KernelState → ℕ → TaskBlock → (f pattern : ℕ) → FlagMode → TimeLimit → CallOutcome
awaited sys s me x f pattern mode limit =
    refused_if (not (flag_config sys f).multiple && not (is_empty (wait_queue sys s (queue.Flag f)))) s er.Iluse
    (awaited_by (satisfies mode pattern (pattern_at s f)) sys s me x limit f pattern mode)

-- goes on with a flag, a pattern and a mode, which are tested in this order
abbrev pub flag_tested : KernelState → ℤ → ℤ → ℤ → (ℕ → ℕ → FlagMode → CallOutcome) → CallOutcome
flag_tested s f b o go =
    tested s er.Id (numbered (length s.flags) f)
    (λ i. tested s er.Par (ranged 1 65535 b) (λ bits. tested s er.Par (mode_of o) (λ mode. go i bits mode)))

-- wai_flg and pol_flg
abbrev pub wai_flg : SystemTables → KernelState → ℕ → TaskBlock → TimeLimit → ℤ → ℤ → ℤ → CallOutcome
wai_flg sys s me x limit f b o = flag_tested s f b o (λ i bits mode. awaited sys s me x i bits mode limit)

abbrev pub twai_flg : SystemTables → KernelState → ℕ → TaskBlock → ℤ → ℤ → ℤ → ℤ → CallOutcome
twai_flg sys s me x f b o tmout =
    flag_tested s f b o
    (λ i bits mode. tested s er.Par (limit_of tmout) (λ limit. awaited sys s me x i bits mode limit))

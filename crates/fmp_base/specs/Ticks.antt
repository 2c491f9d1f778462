-- The system clock, the ends of limited waits, cyclic handlers and interrupts (uITRON 4.0, sections 4.7 and 4.9).
use Rattle.std.specs.Prelude.{ℕ, ◌+◌, List, [], ◌∷◌, ◌++◌, Option, Some, None, Bool, true, false, length, nat_eq}
use Rattle.std.specs.Prelude.{slice_get, slice_set}
use Rattle.fmp_base.specs.declared.codes.Er.{Er}
use Rattle.fmp_base.specs.declared.codes.Er.TheVariants as er
use Rattle.fmp_base.specs.declared.events.Line.TheVariants as line
use Rattle.fmp_base.specs.declared.states.Phase.{Phase}
use Rattle.fmp_base.specs.declared.states.Phase.TheVariants.{Dormant, Ready, Waiting}
use Rattle.fmp_base.specs.declared.states.TaskBlock.{TaskBlock}
use Rattle.fmp_base.specs.declared.states.WaitCause.{WaitCause}
use Rattle.fmp_base.specs.declared.states.WaitCause.TheVariants as cause
use Rattle.fmp_base.specs.Changes.{released}
use Rattle.fmp_base.specs.Outcomes.{code}
use Rattle.fmp_base.specs.ProcessorCalls.{with_due}
use Rattle.fmp_base.specs.States.{KernelState, Progress, unchanged, task_at, places_from}
use Rattle.fmp_base.specs.Systems.{SystemTables, cyclic_config, found}

-- E_OK for the end of a delay, E_TMOUT for that of every other wait
abbrev pub cause_timeout : WaitCause → Er
cause_timeout cause.Delay = er.Ok
cause_timeout _ = er.Tmout

abbrev pub timeout_code : Phase → Er
timeout_code Dormant = er.Tmout
timeout_code Ready = er.Tmout
timeout_code (Waiting c) = cause_timeout c

abbrev pub is_due : ℕ → Option ℕ → Bool
is_due now None = false
is_due now (Some time) = nat_eq time now

abbrev pub timed_out_by : Bool → Progress → ℕ → TaskBlock → Progress
timed_out_by true g t x = released g t x (code (timeout_code x.phase))
timed_out_by false g t x = g

-- task t, which is x, is released if its deadline is now
abbrev pub timed_out : Progress → ℕ → TaskBlock → Progress
timed_out g t x = timed_out_by (is_due g.state.clock x.deadline) g t x

-- of these tasks, in order, those whose deadline is now are released
abbrev pub all_timed_out : Progress → List ℕ → Progress
all_timed_out g [] = g
all_timed_out g (t ∷ ts) = all_timed_out (timed_out g t (task_at g.state.tasks t)) ts

abbrev pub is_pending : List Bool → ℕ → Bool
is_pending pending i = found false (slice_get pending i)

abbrev pub with_cyclic_pending : KernelState → ℕ → KernelState
with_cyclic_pending s c = record s { pending_cyclics = slice_set s.pending_cyclics c true }

-- a cyclic handler becomes pending; if it is pending already, it stays so, with no line
abbrev pub pended_by : Bool → SystemTables → Progress → ℕ → Progress
pended_by true sys g c = g
pended_by false sys g c =
    record
    { state = with_cyclic_pending g.state c; lines = g.lines ++ line.Pends (cyclic_config sys c).processor c ∷ [] }

abbrev pub pended : SystemTables → Progress → ℕ → Progress
pended sys g c = pended_by (is_pending g.state.pending_cyclics c) sys g c

abbrev pub with_next_due : SystemTables → Progress → ℕ → Progress
with_next_due sys g c = record g { state = with_due g.state c (Some (g.state.clock + (cyclic_config sys c).period)) }

abbrev pub cycled_by : Bool → SystemTables → Progress → ℕ → Progress
cycled_by true sys g c = with_next_due sys (pended sys g c) c
cycled_by false sys g c = g

-- cyclic handler c becomes pending if it is due now, and is due again one period later
abbrev pub cycled : SystemTables → Progress → ℕ → Progress
cycled sys g c = cycled_by (is_due g.state.clock (found None (slice_get g.state.due_times c))) sys g c

abbrev pub all_cycled : SystemTables → Progress → List ℕ → Progress
all_cycled sys g [] = g
all_cycled sys g (c ∷ cs) = all_cycled sys (cycled sys g c) cs

abbrev pub with_clock_advanced : KernelState → KernelState
with_clock_advanced s = record s { clock = s.clock + 1 }

-- the clock advances; then waits end, in order of task number; then cyclic handlers become pending, in order of number
abbrev pub ticked : SystemTables → KernelState → Progress
ticked sys s =
    let g = all_timed_out (unchanged (with_clock_advanced s)) (places_from 0 (length s.tasks)) in
    all_cycled sys g (places_from 0 (length s.due_times))

-- the interrupt at place i becomes pending
abbrev pub with_interrupt_pending : KernelState → ℕ → KernelState
with_interrupt_pending s i = record s { pending_interrupts = slice_set s.pending_interrupts i true }

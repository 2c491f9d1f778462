-- The processors as a part of the state of the kernel.
use Rattle.std.specs.Prelude.{ℕ, List, Bool, not, slice_get}
use Rattle.fmp_base.specs.declared.calls.Answer.{Answer}
use Rattle.fmp_base.specs.declared.states.Processor.{Processor}
use Rattle.fmp_base.specs.declared.codes.Er.TheVariants as er
use Rattle.fmp_base.specs.declared.states.Lock.TheVariants.{Free, Spin}
use Rattle.fmp_base.specs.Outcomes.{CallOutcome, succeeds_in, refused_if}
use Rattle.fmp_base.specs.ProcessorCalls.{with_lock}
use Rattle.fmp_base.specs.States.{KernelState, unchanged, idle}
use Rattle.fmp_base.specs.Systems.{found}

-- a state with these processors
abbrev pub with_processors : KernelState → List Processor → KernelState
with_processors s xs = record s { processors = xs }

-- a call has this answer, in this state, and causes nothing else
abbrev pub answered_in : KernelState → Answer → CallOutcome
answered_in s answer = record { answer = answer; progress = unchanged s }

-- processor p of these, or an idle one if there is none
abbrev pub processor_in : List Processor → ℕ → Processor
processor_in xs p = found idle (slice_get xs p)

-- try_spn of lock l, held or not, on processor p
abbrev pub tried_by : Bool → KernelState → ℕ → ℕ → CallOutcome
tried_by held s p l = refused_if held s er.Obj (succeeds_in (with_lock s p (Spin l)))

-- unl_spn of a lock that processor p holds or not
abbrev pub released_by : Bool → KernelState → ℕ → CallOutcome
released_by held s p = refused_if (not held) s er.Iluse (succeeds_in (with_lock s p Free))

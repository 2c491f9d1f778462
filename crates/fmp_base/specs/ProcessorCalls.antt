-- The service calls on cyclic handlers and on the state of the caller's processor p (uITRON 4.0, sections 4.7.2
-- and 4.8; FMP kernel, spin locks).
use Rattle.std.specs.Prelude.{ℕ, ℤ, List, [], ◌∷◌, Option, Some, None, Bool, true, false, ◌||◌, not, length, nat_eq}
use Rattle.std.specs.Prelude.{slice_set}
use Rattle.fmp_base.specs.declared.calls.Answer.TheVariants.{Spins}
use Rattle.fmp_base.specs.declared.codes.Er.TheVariants as er
use Rattle.fmp_base.specs.declared.states.Lock.{Lock}
use Rattle.fmp_base.specs.declared.states.Lock.TheVariants.{Free, Cpu, Spin}
use Rattle.fmp_base.specs.declared.states.Processor.{Processor}
use Rattle.fmp_base.specs.Outcomes.{CallOutcome, refused, succeeds_in, numbered, tested, refused_if}
use Rattle.fmp_base.specs.States.{KernelState, unchanged, clock_after, processor_at, with_processor}
use Rattle.fmp_base.specs.Systems.{SystemTables, cyclic_config}

abbrev pub with_due : KernelState → ℕ → Option ℕ → KernelState
with_due s c due = record s { due_times = slice_set s.due_times c due }

-- the handler is due one period and a tick from now, also if it was started already
abbrev pub sta_cyc : SystemTables → KernelState → ℤ → CallOutcome
sta_cyc sys s c =
    tested s er.Id (numbered (length s.due_times) c)
    (λ i. succeeds_in (with_due s i (Some (clock_after s (cyclic_config sys i).period))))

-- a pending handler stays pending
abbrev pub stp_cyc : KernelState → ℤ → CallOutcome
stp_cyc s c = tested s er.Id (numbered (length s.due_times) c) (λ i. succeeds_in (with_due s i None))

abbrev pub with_lock : KernelState → ℕ → Lock → KernelState
with_lock s p l = with_processor s p (record (processor_at s p) { lock = l })

abbrev pub is_free : Lock → Bool
is_free Free = true
is_free Cpu = false
is_free (Spin l) = false

-- CPU lock, by loc_cpu or by a spin lock
abbrev pub is_cpu_locked : Processor → Bool
is_cpu_locked cpu = not (is_free cpu.lock)

-- a locked CPU stays as it is
abbrev pub cpu_locked_from : Lock → KernelState → ℕ → CallOutcome
cpu_locked_from Free s p = succeeds_in (with_lock s p Cpu)
cpu_locked_from Cpu s p = succeeds_in s
cpu_locked_from (Spin l) s p = succeeds_in s

abbrev pub loc_cpu : KernelState → ℕ → CallOutcome
loc_cpu s p = cpu_locked_from (processor_at s p).lock s p

-- a spin lock is not given up by unl_cpu
abbrev pub cpu_unlocked_from : Lock → KernelState → ℕ → CallOutcome
cpu_unlocked_from Free s p = succeeds_in s
cpu_unlocked_from Cpu s p = succeeds_in (with_lock s p Free)
cpu_unlocked_from (Spin l) s p = refused s er.Ctx

abbrev pub unl_cpu : KernelState → ℕ → CallOutcome
unl_cpu s p = cpu_unlocked_from (processor_at s p).lock s p

-- dis_dsp and ena_dsp
abbrev pub dispatch_set : KernelState → ℕ → Bool → CallOutcome
dispatch_set s p disabled =
    succeeds_in (with_processor s p (record (processor_at s p) { dispatch_disabled = disabled }))

abbrev pub is_spin : ℕ → Lock → Bool
is_spin l Free = false
is_spin l Cpu = false
is_spin l (Spin held) = nat_eq held l

-- whether some processor holds spin lock l
abbrev pub is_held : ℕ → List Processor → Bool
is_held l [] = false
is_held l (cpu ∷ cpus) = is_spin l cpu.lock || is_held l cpus

-- a free lock is taken; for a held one the caller spins
abbrev pub spin_lock_taken : Bool → KernelState → ℕ → ℕ → CallOutcome
spin_lock_taken true s p l = record { answer = Spins; progress = unchanged s }
spin_lock_taken false s p l = succeeds_in (with_lock s p (Spin l))

abbrev pub loc_spn : SystemTables → KernelState → ℕ → ℤ → CallOutcome
loc_spn sys s p l =
    tested s er.Id (numbered (length sys.spin_locks) l) (λ i. spin_lock_taken (is_held i s.processors) s p i)

abbrev pub try_spn : SystemTables → KernelState → ℕ → ℤ → CallOutcome
try_spn sys s p l =
    tested s er.Id (numbered (length sys.spin_locks) l)
    (λ i. refused_if (is_held i s.processors) s er.Obj (succeeds_in (with_lock s p (Spin i))))

abbrev pub unl_spn : SystemTables → KernelState → ℕ → ℤ → CallOutcome
unl_spn sys s p l =
    tested s er.Id (numbered (length sys.spin_locks) l)
    (λ i. refused_if (not (is_spin i (processor_at s p).lock)) s er.Iluse (succeeds_in (with_lock s p Free)))

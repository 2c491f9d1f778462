-- What tasks wait and spin for, and which task holds it.
use Rattle.std.specs.Prelude.{ℕ, List, [], ◌∷◌, Option, Some, None, Bool, true, false, ◌&&◌, if◌then◌else◌, nat_eq}
use Rattle.std.specs.Prelude.{position, slice_get}
use Rattle.std.specs.Option.{option_and_then}
use Rattle.fmp_base.specs.declared.calls.Answer.{Answer}
use Rattle.fmp_base.specs.declared.calls.Answer.TheVariants as answer
use Rattle.fmp_base.specs.declared.calls.Call.{Call}
use Rattle.fmp_base.specs.declared.calls.Call.TheVariants as call
use Rattle.fmp_base.specs.declared.states.Handler.{Handler}
use Rattle.fmp_base.specs.declared.states.Lock.{Lock}
use Rattle.fmp_base.specs.declared.states.Lock.TheVariants as lock
use Rattle.fmp_base.specs.declared.states.Phase.{Phase}
use Rattle.fmp_base.specs.declared.states.Phase.TheVariants as phase
use Rattle.fmp_base.specs.declared.states.Processor.{Processor}
use Rattle.fmp_base.specs.declared.states.TaskBlock.{TaskBlock}
use Rattle.fmp_base.specs.declared.states.WaitCause.TheVariants as cause
use Rattle.fmp_base.specs.Outcomes.{numbered}
use Rattle.fmp_base.specs.ProcessorCalls.{is_free, is_spin}
use Rattle.fmp_why.specs.declared.obstacles.SpinWait.{SpinWait}

-- the spin lock that a call asks for by loc_spn, of this many
abbrev pub asked_lock : (locks : ℕ) → Option Call → Option ℕ
asked_lock locks (Some (call.LocSpn l)) = numbered locks l
asked_lock locks _ = None

-- the first of these processors that holds a spin lock
abbrev pub holder_of : List Processor → ℕ → Option ℕ
holder_of cpus l = position (λ cpu. is_spin l cpu.lock) cpus

-- a spin lock that a processor holds
abbrev pub held_by : (lock : ℕ) → Option ℕ → Option SpinWait
held_by lock None = None
held_by lock (Some p) = Some (record { lock = lock; holder = p })

abbrev pub held_lock : List Processor → Option ℕ → Option SpinWait
held_lock cpus None = None
held_lock cpus (Some l) = held_by l (holder_of cpus l)

-- a processor runs a task and no handler, and its CPU is not locked
abbrev pub runs_task : Option Handler → Option ℕ → Bool
runs_task None (Some t) = true
runs_task None None = false
runs_task (Some h) run = false

abbrev pub is_open : Processor → Bool
is_open cpu = runs_task cpu.handler cpu.run && is_free cpu.lock

abbrev pub is_held_lock : Lock → Bool
is_held_lock lock.Free = false
is_held_lock lock.Cpu = false
is_held_lock (lock.Spin l) = true

abbrev pub holds_spin_lock : Processor → Bool
holds_spin_lock cpu = is_held_lock cpu.lock

abbrev pub is_some : Option ℕ → Bool
is_some None = false
is_some (Some p) = true

-- some processor holds a spin lock
abbrev pub is_any_held : List Processor → Bool
is_any_held cpus = is_some (position holds_spin_lock cpus)

-- the actor of a processor spins by some call, if at all: it may ask for a spin lock, and one is held
abbrev pub may_spin : List Processor → Processor → Bool
may_spin cpus cpu = is_open cpu && is_any_held cpus

-- a call has this answer: its caller spins
abbrev pub spins_by : Answer → Bool
spins_by answer.Spins = true
spins_by _ = false

-- what the actor of a processor spins for, if its next call is this one: the spin lock that it asks for, if it may ask
-- and some processor holds it
abbrev pub spin_on : List Processor → (locks : ℕ) → Processor → Option Call → Option SpinWait
spin_on cpus locks cpu c = if is_open cpu then held_lock cpus (asked_lock locks c) else None

-- a processor runs task t
abbrev pub is_task : ℕ → Option ℕ → Bool
is_task t None = false
is_task t (Some u) = nat_eq u t

-- what task t spins for: what is spun for on the first processor that runs it
abbrev pub spin_of : List Processor → List (Option SpinWait) → ℕ → Option SpinWait
spin_of [] spins t = None
spin_of (x ∷ xs) [] t = None
spin_of (x ∷ xs) (s ∷ ss) t = if is_task t x.run then s else spin_of xs ss t

-- the task that a processor runs
abbrev pub run_at : List Processor → ℕ → Option ℕ
run_at cpus p = option_and_then (λ x. x.run) (slice_get cpus p)

-- the task that holds what a task waits for with no end, by the holders of the semaphores
abbrev pub wait_holder : (holders : List (Option ℕ)) → Phase → (deadline : Option ℕ) → Option ℕ
wait_holder holders (phase.Waiting (cause.Semaphore s)) None = option_and_then (λ x. x) (slice_get holders s)
wait_holder holders _ _ = None

-- the task that holds what a task spins for
abbrev pub spin_holder : List Processor → Option SpinWait → Option ℕ
spin_holder cpus None = None
spin_holder cpus (Some s) = run_at cpus s.holder

-- the first of two that there is
abbrev pub first_of : Option ℕ → Option ℕ → Option ℕ
first_of (Some t) other = Some t
first_of None other = other

-- the task that holds what a task of this block waits for with no end, or spins for
abbrev pub blocker_of : (holders : List (Option ℕ)) → List Processor → TaskBlock → Option SpinWait → Option ℕ
blocker_of holders cpus block spin = first_of (wait_holder holders block.phase block.deadline) (spin_holder cpus spin)

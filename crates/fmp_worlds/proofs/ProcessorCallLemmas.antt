-- The calls on cyclic handlers and on the state of a processor have the effect that every call has.
use Rattle.std.proofs.Common.{◌≡◌, ◌<◌, ℕ, zero, suc, ℤ, pos, negsuc, List, [], ◌∷◌, Option, Some, None, Bool, true}
use Rattle.std.proofs.Common.{false, ◌||◌, not, length, nat_lt, slice_get, refl, ap, arith, if◌then◌else◌}
use Rattle.std.proofs.lemmas.Bool.{eqb-true}
use Rattle.std.proofs.lemmas.Bool.Decides.{nat_tests}
use Rattle.fmp_base.specs.declared.codes.Er.TheVariants as er
use Rattle.fmp_base.specs.declared.states.Lock.{Lock}
use Rattle.fmp_base.specs.declared.states.Lock.TheVariants.{Free, Cpu, Spin}
use Rattle.fmp_base.specs.declared.states.Processor.{Processor}
use Rattle.fmp_base.specs.Outcomes.{numbered, tested}
use Rattle.fmp_base.specs.ProcessorCalls as calls
use Rattle.fmp_base.specs.ProcessorCalls.{is_held, is_spin, with_lock}
use Rattle.fmp_base.specs.States.{KernelState, idle, processor_at}
use Rattle.fmp_base.specs.Systems.{SystemTables, found}
use Rattle.fmp_worlds.specs.Spins.{IsLockHeld}
use Rattle.fmp_worlds.proofs.Assigned.{Holds}
use Rattle.fmp_worlds.proofs.Changes.{holds-processor, actors-processor}
use Rattle.fmp_worlds.proofs.Outcomes.{IsTask, Keeps, keeps-refused, keeps-succeeds_in, keeps-tested, keeps-refused_if}
use Rattle.fmp_worlds.proofs.Settling.{can_settle}
use Rattle.fmp_worlds.proofs.Told.{still}

holds-lock : (s : KernelState) (p : ℕ) (l : Lock) → Holds s → Holds (with_lock s p l)
holds-lock s p l a = holds-processor s p _ refl a

-- a processor in a list that holds spin lock l
record HeldBy (l : ℕ) (cpus : List Processor) : Type 0 where
  place : ℕ
  there : place < length cpus
  holds : (found idle (slice_get cpus place)).lock ≡ Spin l

is-spin : (l : ℕ) (k : Lock) → is_spin l k ≡ true → k ≡ Spin l
is-spin l Free h = cc
is-spin l Cpu h = cc
is-spin l (Spin held) h = ap (λ (n : ℕ). Spin n) (eqb-true held l h)

held-first : (l : ℕ) (cpu : Processor) (cpus : List Processor) (b : Bool) → is_spin l cpu.lock ≡ b
    → (b || is_held l cpus) ≡ true → (is_held l cpus ≡ true → HeldBy l cpus) → HeldBy l (cpu ∷ cpus)
held-first l cpu cpus true e h rest = record { place = 0; there = omega arith; holds = is-spin l cpu.lock e }
held-first l cpu cpus false e h rest =
    let held = rest h in
    let below = held.there in
    record { place = suc held.place; there = omega (arith, below); holds = held.holds }

held-by : (l : ℕ) (cpus : List Processor) → is_held l cpus ≡ true → HeldBy l cpus
held-by l [] h = absurd (cc h)
held-by l (cpu ∷ cpus) h = held-first l cpu cpus (is_spin l cpu.lock) refl h (λ k. held-by l cpus k)

lock_held : (sys : SystemTables) (s : KernelState) (n : ℕ) → nat_lt n (length sys.spin_locks) ≡ true
    → is_held n s.processors ≡ true → IsLockHeld sys s
lock_held sys s n e h =
    let held = held-by n s.processors h in
    record { some = grind (arith, nat_tests, e); holder = held.place; there = held.there; lock = n; holds = held.holds }

module _ {K : Type 0} {own : ℕ} {who : Option ℕ} (sys : SystemTables) (s : KernelState) where
  pub keeps-sta_cyc : (c : ℤ) → Keeps K own who sys s (calls.sta_cyc sys s c)
  keeps-sta_cyc c =
      keeps-tested sys s er.Id (numbered (length s.due_times) c) _ (λ i. keeps-succeeds_in sys s _ (λ a. a)
      (λ q. refl) (λ t r. r))

  pub keeps-stp_cyc : (c : ℤ) → Keeps K own who sys s (calls.stp_cyc s c)
  keeps-stp_cyc c =
      keeps-tested sys s er.Id (numbered (length s.due_times) c) _ (λ i. keeps-succeeds_in sys s _ (λ a. a)
      (λ q. refl) (λ t r. r))

  cpu_locked_from : (l : Lock) (p : ℕ) → Keeps K own who sys s (calls.cpu_locked_from l s p)
  cpu_locked_from Free p = keeps-succeeds_in sys s _ (λ a. holds-lock s p Cpu a) (actors-processor s p _ refl)
      (λ t r. r)
  cpu_locked_from Cpu p = keeps-succeeds_in sys s s (λ a. a) (λ q. refl) (λ t r. r)
  cpu_locked_from (Spin l) p = keeps-succeeds_in sys s s (λ a. a) (λ q. refl) (λ t r. r)

  pub keeps-loc_cpu : (p : ℕ) → Keeps K own who sys s (calls.loc_cpu s p)
  keeps-loc_cpu p = cpu_locked_from (processor_at s p).lock p

  cpu_unlocked_from : (l : Lock) (p : ℕ) → Keeps K own who sys s (calls.cpu_unlocked_from l s p)
  cpu_unlocked_from Free p = keeps-succeeds_in sys s s (λ a. a) (λ q. refl) (λ t r. r)
  cpu_unlocked_from Cpu p = keeps-succeeds_in sys s _ (λ a. holds-lock s p Free a) (actors-processor s p _ refl)
      (λ t r. r)
  cpu_unlocked_from (Spin l) p = keeps-refused sys s er.Ctx

  pub keeps-unl_cpu : (p : ℕ) → Keeps K own who sys s (calls.unl_cpu s p)
  keeps-unl_cpu p = cpu_unlocked_from (processor_at s p).lock p

  pub keeps-dispatch_set : (p : ℕ) (disabled : Bool) → Keeps K own who sys s (calls.dispatch_set s p disabled)
  keeps-dispatch_set p disabled = keeps-succeeds_in sys s _ (λ a. holds-processor s p _ refl a)
      (actors-processor s p _ refl) (λ t r. r)

  spin_lock_taken : (held : Bool) (p l : ℕ) → (held ≡ true → IsLockHeld sys s) → (processor_at s own).lock ≡ Free
      → IsTask who
      → Keeps K own who sys s (calls.spin_lock_taken held s p l)
  spin_lock_taken true p l k free task =
      record {
        settles = λ k a. can_settle sys s a;
        spins = λ h. (refl, k refl, free, task);
        waits = λ h. cc;
        ends = λ h. cc;
        actors = λ q n. refl;
        handlers = λ q. refl;
        lines = λ k a. tt;
        woken = still (λ t r. r);
      }
  spin_lock_taken false p l k free task = keeps-succeeds_in sys s _ (λ a. holds-lock s p (Spin l) a)
      (actors-processor s p _ refl) (λ t r. r)

  pub keeps-loc_spn : (p : ℕ) (l : ℤ) → (processor_at s own).lock ≡ Free → IsTask who
      → Keeps K own who sys s (calls.loc_spn sys s p l)
  keeps-loc_spn p (pos zero) free task = keeps-refused sys s er.Id
  keeps-loc_spn p (pos (suc n)) free task = by_test (nat_lt n (length sys.spin_locks)) refl where
    by_test : (b : Bool) → nat_lt n (length sys.spin_locks) ≡ b
        → Keeps K own who sys s
        (tested s er.Id (if b then Some n else None) (λ i. calls.spin_lock_taken (is_held i s.processors) s p i))
    by_test true e = spin_lock_taken (is_held n s.processors) p n (lock_held sys s n e) free task
    by_test false e = keeps-refused sys s er.Id
  keeps-loc_spn p (negsuc n) free task = keeps-refused sys s er.Id

  pub keeps-try_spn : (p : ℕ) (l : ℤ) → Keeps K own who sys s (calls.try_spn sys s p l)
  keeps-try_spn p l =
      keeps-tested sys s er.Id (numbered (length sys.spin_locks) l) _
      (λ i. keeps-refused_if sys s (is_held i s.processors) er.Obj _ (λ e. keeps-succeeds_in sys s _
      (λ a. holds-lock s p (Spin i) a) (actors-processor s p _ refl) (λ t r. r)))

  pub keeps-unl_spn : (p : ℕ) (l : ℤ) → Keeps K own who sys s (calls.unl_spn sys s p l)
  keeps-unl_spn p l =
      keeps-tested sys s er.Id (numbered (length sys.spin_locks) l) _
      (λ i. keeps-refused_if sys s (not (is_spin i (processor_at s p).lock)) er.Iluse _
      (λ e. keeps-succeeds_in sys s _ (λ a. holds-lock s p Free a) (actors-processor s p _ refl) (λ t r. r)))

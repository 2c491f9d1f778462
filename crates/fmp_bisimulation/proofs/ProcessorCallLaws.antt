-- The service calls on cyclic handlers and on the state of the caller's processor come to the same in alike states.
use Rattle.std.proofs.Common.{ℕ, ℤ, Some, None, Bool, true, false, not, refl, subst, length}
use Rattle.fmp_base.specs.declared.codes.Er.TheVariants as er
use Rattle.fmp_base.specs.declared.states.Lock.{Lock}
use Rattle.fmp_base.specs.declared.states.Lock.TheVariants.{Free, Cpu, Spin}
use Rattle.fmp_base.specs.Outcomes.{CallOutcome, succeeds_in, numbered, tested}
use Rattle.fmp_base.specs.ProcessorCalls.{sta_cyc, stp_cyc, with_lock, cpu_locked_from, loc_cpu, cpu_unlocked_from}
use Rattle.fmp_base.specs.ProcessorCalls.{unl_cpu, dispatch_set, is_spin, is_held, spin_lock_taken, loc_spn, try_spn}
use Rattle.fmp_base.specs.ProcessorCalls.{unl_spn}
use Rattle.fmp_base.specs.States.{KernelState, clock_after, processor_at, with_processor}
use Rattle.fmp_base.specs.Systems.{SystemTables, cyclic_config}
use Rattle.fmp_bisimulation.specs.Alike.{AlikeStates, SameOutcome}
use Rattle.fmp_bisimulation.proofs.ChangeLaws.{unchanged-same}
use Rattle.fmp_bisimulation.proofs.OutcomeLaws.{succeeds_in-same, refused-same, tested-same, refused_if-same}
use Rattle.fmp_bisimulation.proofs.StateLaws.{View, seen, alike-changed}
use Rattle.fmp_bisimulation.proofs.TickLaws.{alike-with_due}
use Rattle.fmp_bisimulation.proofs.TimeLaws.{times-long, same-after}

module _ (sys : SystemTables) (s : KernelState) (v : View) (h : AlikeStates sys s (seen s v)) where
  -- what goes on with a cyclic handler that a number names
  cyclic-same : (c : ℤ) (f g : ℕ → CallOutcome) → ((i : ℕ) → SameOutcome sys (f i) (g i))
      → SameOutcome sys (tested s er.Id (numbered (length s.due_times) c) f)
      (tested (seen s v) er.Id (numbered (length v.due_times) c) g)
  cyclic-same c f g k =
      subst (λ (n : ℕ). SameOutcome sys (tested s er.Id (numbered (length s.due_times) c) f)
      (tested (seen s v) er.Id (numbered n c) g))
      (times-long s.clock v.clock s.due_times v.due_times h.due_times)
      (tested-same sys s (seen s v) h er.Id (numbered (length s.due_times) c) f g k)

  pub sta_cyc-same : (c : ℤ) → SameOutcome sys (sta_cyc sys s c) (sta_cyc sys (seen s v) c)
  sta_cyc-same c =
      cyclic-same c _ _
      (λ i. succeeds_in-same sys _ _ (alike-with_due sys s (seen s v) i
      (Some (clock_after s (cyclic_config sys i).period))
      (Some (clock_after (seen s v) (cyclic_config sys i).period)) h (same-after s.clock v.clock
      (cyclic_config sys i).period)))

  pub stp_cyc-same : (c : ℤ) → SameOutcome sys (stp_cyc s c) (stp_cyc (seen s v) c)
  stp_cyc-same c =
      cyclic-same c _ _ (λ i. succeeds_in-same sys _ _ (alike-with_due sys s (seen s v) i None None h tt))

  locked-same : (p : ℕ) (l : Lock) → SameOutcome sys (succeeds_in (with_lock s p l))
      (succeeds_in (with_lock (seen s v) p l))
  locked-same p l =
      succeeds_in-same sys _ _ (alike-changed sys (λ z. with_lock z p l) (λ z. refl) (λ z. refl) s (seen s v) h)

  cpu_locked_from-same : (l : Lock) (p : ℕ) → SameOutcome sys (cpu_locked_from l s p) (cpu_locked_from l (seen s v) p)
  cpu_locked_from-same Free p = locked-same p Cpu
  cpu_locked_from-same Cpu p = succeeds_in-same sys s (seen s v) h
  cpu_locked_from-same (Spin l) p = succeeds_in-same sys s (seen s v) h

  pub loc_cpu-same : (p : ℕ) → SameOutcome sys (loc_cpu s p) (loc_cpu (seen s v) p)
  loc_cpu-same p = cpu_locked_from-same (processor_at s p).lock p

  cpu_unlocked_from-same : (l : Lock) (p : ℕ) → SameOutcome sys (cpu_unlocked_from l s p)
      (cpu_unlocked_from l (seen s v) p)
  cpu_unlocked_from-same Free p = succeeds_in-same sys s (seen s v) h
  cpu_unlocked_from-same Cpu p = locked-same p Free
  cpu_unlocked_from-same (Spin l) p = refused-same sys s (seen s v) h er.Ctx

  pub unl_cpu-same : (p : ℕ) → SameOutcome sys (unl_cpu s p) (unl_cpu (seen s v) p)
  unl_cpu-same p = cpu_unlocked_from-same (processor_at s p).lock p

  pub dispatch_set-same : (p : ℕ) (b : Bool) → SameOutcome sys (dispatch_set s p b) (dispatch_set (seen s v) p b)
  dispatch_set-same p b =
      succeeds_in-same sys _ _
      (alike-changed sys (λ z. with_processor z p (record (processor_at z p) { dispatch_disabled = b })) (λ z. refl)
      (λ z. refl)
      s (seen s v) h)

  spin_lock_taken-same : (b : Bool) (p l : ℕ) → SameOutcome sys (spin_lock_taken b s p l)
      (spin_lock_taken b (seen s v) p l)
  spin_lock_taken-same true p l = record { answer = refl; progress = unchanged-same sys s (seen s v) h }
  spin_lock_taken-same false p l = locked-same p (Spin l)

  pub loc_spn-same : (p : ℕ) (l : ℤ) → SameOutcome sys (loc_spn sys s p l) (loc_spn sys (seen s v) p l)
  loc_spn-same p l =
      tested-same sys s (seen s v) h er.Id (numbered (length sys.spin_locks) l) _ _
      (λ i. spin_lock_taken-same (is_held i s.processors) p i)

  pub try_spn-same : (p : ℕ) (l : ℤ) → SameOutcome sys (try_spn sys s p l) (try_spn sys (seen s v) p l)
  try_spn-same p l =
      tested-same sys s (seen s v) h er.Id (numbered (length sys.spin_locks) l) _ _
      (λ i. refused_if-same sys s (seen s v) h (is_held i s.processors) er.Obj _ _ (locked-same p (Spin i)))

  pub unl_spn-same : (p : ℕ) (l : ℤ) → SameOutcome sys (unl_spn sys s p l) (unl_spn sys (seen s v) p l)
  unl_spn-same p l =
      tested-same sys s (seen s v) h er.Id (numbered (length sys.spin_locks) l) _ _
      (λ i. refused_if-same sys s (seen s v) h (not (is_spin i (processor_at s p).lock)) er.Iluse _ _
      (locked-same p Free))

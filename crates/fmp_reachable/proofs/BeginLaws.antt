-- The handler that begins on a processor is one of the system, of that processor.
use Rattle.std.proofs.Common.{◌≡◌, ℕ, zero, suc, ◌+◌, ◌<◌, ◌≤◌, List, [], ◌∷◌, Option, Some, None, Bool, true, false}
use Rattle.std.proofs.Common.{◌&&◌, ◌⊎◌, inl, inr, length, slice_get, refl, subst, arith, if◌then◌else◌}
use Rattle.fmp_base.specs.declared.states.Handler.{Handler}
use Rattle.fmp_base.specs.declared.states.Handler.TheVariants as handler
use Rattle.fmp_base.specs.declared.systems.CyclicConfig.{CyclicConfig}
use Rattle.fmp_base.specs.declared.systems.InterruptConfig.{InterruptConfig}
use Rattle.fmp_base.specs.Meanings.{cyclic_start, handler_start, interrupt_start}
use Rattle.fmp_base.specs.Settles.{is_defined_on, interrupts_on, cycles_on, first_or, first_pending, cyclic_handler}
use Rattle.fmp_base.specs.Settles.{interrupt_or, pending_handler}
use Rattle.fmp_base.specs.States.{KernelState}
use Rattle.fmp_base.specs.Systems.{SystemTables, interrupt_config}
use Rattle.fmp_worlds.specs.Settled.{IsThere}
use Rattle.fmp_reachable.specs.Rooms.{is_handler_of}

-- the first pending place is one of the list, and the test holds for it
record IsFirst (on : ℕ → Bool) (i n c : ℕ) : Type 0 where
  holds : on c ≡ true
  within : c < i + n

first-or : (pending holds : Bool) (i c : ℕ) (rest : Option ℕ) → first_or (pending && holds) i rest ≡ Some c
    → ((i ≡ c) × (holds ≡ true)) ⊎ (rest ≡ Some c)
first-or true true i c rest h = inl (cc, refl)
first-or true false i c rest h = inr h
first-or false holds i c rest h = inr h

first-of : (on : ℕ → Bool) (i n c : ℕ) (rest : Option ℕ) → (rest ≡ Some c → IsFirst on (i + 1) n c)
    → ((i ≡ c) × (on i ≡ true)) ⊎ (rest ≡ Some c) → IsFirst on i (suc n) c
first-of on i n c rest go (inl h) =
    let same = h.0 in
    record { holds = subst (λ (j : ℕ). on j ≡ true) same h.1; within = omega (arith, same) }
first-of on i n c rest go (inr h) =
    let first = go h in
    let below = first.within in
    record { holds = first.holds; within = omega (arith, below) }

first-is : (on : ℕ → Bool) (i : ℕ) (bs : List Bool) (c : ℕ) → first_pending on i bs ≡ Some c
    → IsFirst on i (length bs) c
first-is on i [] c h = cc
first-is on i (b ∷ bs) c h =
    let rest = first_pending on (i + 1) bs in
    first-of on i (length bs) c rest (λ e. first-is on (i + 1) bs c e) (first-or b (on i) i c rest h)

-- a handler of processor p that the system has
pub record IsOf (sys : SystemTables) (p : ℕ) (h : Handler) : Type 0 where
  pub own : is_handler_of sys p h ≡ true
  pub there : IsThere (handler_start sys h)

interrupt-there : (p : ℕ) (o : Option InterruptConfig) → is_defined_on p o ≡ true → IsThere (interrupt_start o)
interrupt-there p None h = cc
interrupt-there p (Some c) h = tt

cyclic-there : (cs : List CyclicConfig) (c : ℕ) → c < length cs → IsThere (cyclic_start (slice_get cs c))
cyclic-there [] c l = absurd (omega (arith, l))
cyclic-there (x ∷ cs) zero l = tt
cyclic-there (x ∷ cs) (suc c) l = cyclic-there cs c (omega (arith, l))

pub pending-of : (sys : SystemTables) (s : KernelState) (p : ℕ) (h : Handler)
    → length s.pending_cyclics ≤ length sys.cyclics → pending_handler sys s p ≡ Some h → IsOf sys p h
pending-of sys s p h few e = by_interrupt (first_pending (interrupts_on sys p) 0 s.pending_interrupts) h refl e where
  by_cyclic : (o : Option ℕ) (h : Handler) → first_pending (cycles_on sys p) 0 s.pending_cyclics ≡ o
      → cyclic_handler o ≡ Some h → IsOf sys p h
  by_cyclic None h f e = cc
  by_cyclic (Some c) (handler.Interrupt i) f e = cc
  by_cyclic (Some c) (handler.Cyclic d) f e =
      let same : c ≡ d = cc in
      let first = first-is (cycles_on sys p) 0 s.pending_cyclics c f in
      let below = first.within in
      record {
        own = subst (λ (k : ℕ). cycles_on sys p k ≡ true) same first.holds;
        there = cyclic-there sys.cyclics d (omega (arith, below, few, same));
      }

  by_interrupt : (o : Option ℕ) (h : Handler) → first_pending (interrupts_on sys p) 0 s.pending_interrupts ≡ o
      → interrupt_or o (cyclic_handler (first_pending (cycles_on sys p) 0 s.pending_cyclics)) ≡ Some h → IsOf sys p h
  by_interrupt None h f e = by_cyclic (first_pending (cycles_on sys p) 0 s.pending_cyclics) h refl e
  by_interrupt (Some i) (handler.Cyclic d) f e = cc
  by_interrupt (Some i) (handler.Interrupt j) f e =
      let same : i ≡ j = cc in
      let first = first-is (interrupts_on sys p) 0 s.pending_interrupts i f in
      let on = subst (λ (k : ℕ). interrupts_on sys p k ≡ true) same first.holds in
      record { own = on; there = interrupt-there p (interrupt_config sys j) on }

pub begins-of : (b : Bool) (sys : SystemTables) (s : KernelState) (p : ℕ) (h : Handler)
    → length s.pending_cyclics ≤ length sys.cyclics → (if b then None else pending_handler sys s p) ≡ Some h
    → IsOf sys p h
begins-of true sys s p h few e = cc
begins-of false sys s p h few e = pending-of sys s p h few e

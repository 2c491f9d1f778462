-- Where no handler is pending, none is after another has begun.
use Rattle.std.proofs.Common.{◌≡◌, ℕ, zero, suc, ◌+◌, List, [], ◌∷◌, Option, Some, None, Bool, true, false, ◌&&◌}
use Rattle.std.proofs.Common.{slice_set, refl}
use Rattle.fmp_base.specs.declared.states.Handler.{Handler}
use Rattle.fmp_base.specs.declared.states.Handler.TheVariants as handler
use Rattle.fmp_base.specs.Settles.{pending_handler, first_pending, first_or, cyclic_handler, interrupt_or}
use Rattle.fmp_base.specs.Settles.{interrupts_on, cycles_on, without_pending}
use Rattle.fmp_base.specs.States.{KernelState}
use Rattle.fmp_base.specs.Systems.{SystemTables}

first_or-none : (b : Bool) (i : ℕ) (rest : Option ℕ) → first_or b i rest ≡ None → (b ≡ false) × (rest ≡ None)
first_or-none true i rest h = cc
first_or-none false i rest h = (refl, h)

first_pending-less : (on : ℕ → Bool) (i : ℕ) (bs : List Bool) (j : ℕ) → first_pending on i bs ≡ None
    → first_pending on i (slice_set bs j false) ≡ None
first_pending-less on i [] j h = h
first_pending-less on i (b ∷ bs) zero h = (first_or-none (b && on i) i (first_pending on (i + 1) bs) h).1
first_pending-less on i (b ∷ bs) (suc j) h =
    let parts = first_or-none (b && on i) i (first_pending on (i + 1) bs) h in
    rw parts.0 (first_pending-less on (i + 1) bs j parts.1)

interrupt_or-none : (o : Option ℕ) (other : Option Handler) → interrupt_or o other ≡ None
    → (o ≡ None) × (other ≡ None)
interrupt_or-none None other h = (refl, h)
interrupt_or-none (Some i) other h = cc

cyclic_handler-none : (o : Option ℕ) → cyclic_handler o ≡ None → o ≡ None
cyclic_handler-none None h = refl
cyclic_handler-none (Some c) h = cc

pub pending-less : (sys : SystemTables) (s : KernelState) (h : Handler) (q : ℕ) → pending_handler sys s q ≡ None
    → pending_handler sys (without_pending s h) q ≡ None
pending-less sys s (handler.Interrupt i) q e =
    let parts = interrupt_or-none (first_pending (interrupts_on sys q) 0 s.pending_interrupts) _ e in
    rw (first_pending-less (interrupts_on sys q) 0 s.pending_interrupts i parts.0) parts.1
pending-less sys s (handler.Cyclic c) q e =
    let parts = interrupt_or-none (first_pending (interrupts_on sys q) 0 s.pending_interrupts) _ e in
    let none = cyclic_handler-none (first_pending (cycles_on sys q) 0 s.pending_cyclics) parts.1 in
    rw (parts.0, first_pending-less (cycles_on sys q) 0 s.pending_cyclics c none) refl

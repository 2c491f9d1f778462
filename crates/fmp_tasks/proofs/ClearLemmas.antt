-- A processor on which no handler is pending stays so where a handler is no longer pending.
use Rattle.std.proofs.Common.{◌≡◌, ℕ, zero, suc, ◌+◌, List, [], ◌∷◌, Option, Some, None, Bool, true, false, ◌&&◌, refl}
use Rattle.std.proofs.Common.{ap, ◌∙◌, length}
use Rattle.std.specs.Prelude.{slice_set}
use Rattle.std.proofs.Math.ListN.{length-set}
use Rattle.fmp_base.specs.declared.states.Handler.{Handler}
use Rattle.fmp_base.specs.declared.states.Handler.TheVariants as handler
use Rattle.fmp_base.specs.declared.states.Processor.{Processor}
use Rattle.fmp_base.specs.Settles.{cyclic_handler, first_or, first_pending, interrupt_or}
use Rattle.fmp_ring.specs.RingLists.{RingLists}
use Rattle.fmp_spin.specs.Pending.{PendingMarks, cycles_there, first_handler, interrupts_there, without_mark}
use Rattle.fmp_tasks.specs.Marks.{AreAtRest}

none_or : (c : Bool) (i : ℕ) (rest : Option ℕ) → first_or c i rest ≡ None → (c ≡ false) × (rest ≡ None)
none_or true i rest e = cc
none_or false i rest e = (refl, e)

stays_none : (on : ℕ → Bool) (from : ℕ) (bs : List Bool) (i : ℕ) → first_pending on from bs ≡ None
    → first_pending on from (slice_set bs i false) ≡ None
stays_none on from [] i e = e
stays_none on from (b ∷ bs) zero e = (none_or (b && on from) from (first_pending on (from + 1) bs) e).1
stays_none on from (b ∷ bs) (suc i) e =
    let parts = none_or (b && on from) from (first_pending on (from + 1) bs) e in
    ap (λ (c : Bool). first_or c from (first_pending on (from + 1) (slice_set bs i false))) parts.0
    ∙ stays_none on (from + 1) bs i parts.1

none_interrupt : (a : Option ℕ) (b : Option Handler) → interrupt_or a b ≡ None → (a ≡ None) × (b ≡ None)
none_interrupt None b e = (refl, e)
none_interrupt (Some i) b e = cc

none_cyclic : (a : Option ℕ) → cyclic_handler a ≡ None → a ≡ None
none_cyclic None e = refl
none_cyclic (Some c) e = cc

cleared : (pending : PendingMarks) (h : Handler) (p : ℕ) → first_handler pending p ≡ None
    → first_handler (without_mark pending h) p ≡ None
cleared pending (handler.Interrupt i) p e =
    let rest = cyclic_handler (first_pending (cycles_there pending.processors p) 0 pending.cyclics) in
    let parts = none_interrupt (first_pending (interrupts_there pending.processors p) 0 pending.interrupts) rest e in
    ap (λ (o : Option ℕ). interrupt_or o rest) (stays_none (interrupts_there pending.processors p) 0
    pending.interrupts i parts.0)
    ∙ parts.1
cleared pending (handler.Cyclic c) p e =
    let found = first_pending (cycles_there pending.processors p) 0 pending.cyclics in
    let parts =
    none_interrupt (first_pending (interrupts_there pending.processors p) 0 pending.interrupts)
    (cyclic_handler found) e in
    ap (λ (o : Option ℕ). interrupt_or o
    (cyclic_handler (first_pending (cycles_there pending.processors p) 0 (slice_set pending.cyclics c false)))) parts.0
    ∙ ap cyclic_handler (stays_none (cycles_there pending.processors p) 0 pending.cyclics c (none_cyclic found parts.1))

pub cleared_processors : (pending : PendingMarks) (h : Handler) → (without_mark pending h).processors
    ≡ pending.processors
cleared_processors pending (handler.Interrupt i) = refl
cleared_processors pending (handler.Cyclic c) = refl

pub cleared_interrupts : (pending : PendingMarks) (h : Handler)
    → length (without_mark pending h).interrupts ≡ length pending.interrupts
cleared_interrupts pending (handler.Interrupt i) = length-set pending.interrupts i false
cleared_interrupts pending (handler.Cyclic c) = refl

pub cleared_cyclics : (pending : PendingMarks) (h : Handler)
    → length (without_mark pending h).cyclics ≡ length pending.cyclics
cleared_cyclics pending (handler.Interrupt i) = refl
cleared_cyclics pending (handler.Cyclic c) = length-set pending.cyclics c false

-- no processor is less at rest where a handler is no longer pending
pub at_rest_cleared : (marked : List Bool) (cpus : List Processor) (r : RingLists) (pending : PendingMarks)
    (h : Handler)
    → AreAtRest marked cpus r pending → AreAtRest marked cpus r (without_mark pending h)
at_rest_cleared marked cpus r pending h rest = record {
  each =
      λ p l e. let was = rest.each p l e in record { none = cleared pending h p was.none; same = was.same };
}

-- What is pending by the processors of the handlers is what is pending by the tables of the system.
use Rattle.std.proofs.Common.{◌≡◌, ℕ, zero, suc, ◌+◌, ◌<◌, ◌≤◌, List, [], ◌∷◌, length, Option, Some, None, Bool, ◌&&◌}
use Rattle.std.proofs.Common.{nat_eq, refl, ap, ◌∙◌, sym, arith, map}
use Rattle.std.specs.Prelude.{slice_get}
use Rattle.fmp_base.specs.declared.systems.CyclicConfig.{CyclicConfig}
use Rattle.fmp_base.specs.declared.systems.InterruptConfig.{InterruptConfig}
use Rattle.fmp_base.specs.Settles.{first_pending, first_or, interrupt_or, cyclic_handler, interrupts_on, cycles_on}
use Rattle.fmp_base.specs.Settles.{is_defined_on, pending_handler}
use Rattle.fmp_base.specs.States.{KernelState, places_from}
use Rattle.fmp_base.specs.Systems.{SystemTables, found, cyclic_config, interrupt_config}
use Rattle.fmp_spin.specs.Pending.{handler_processors, processor_of, is_on, interrupts_there, cycles_there}
use Rattle.fmp_spin.specs.Pending.{first_handler}

-- two tests that agree on all places find the same
first-same : (f g : ℕ → Bool) (from : ℕ) (bs : List Bool) → ((i : ℕ) → i < from + length bs → f i ≡ g i)
    → first_pending f from bs ≡ first_pending g from bs
first-same f g from [] same = refl
first-same f g from (b ∷ bs) same =
    let here : f from ≡ g from = same from (omega arith) in
    ap (λ (x : Bool). first_or (b && x) from (first_pending f (from + 1) bs)) here
    ∙ ap (first_or (b && g from) from) (first-same f g (from + 1) bs (λ i l. same i (omega arith)))

interrupt-same : (o : Option InterruptConfig) (p : ℕ) → is_on (processor_of o) p ≡ is_defined_on p o
interrupt-same None p = refl
interrupt-same (Some i) p = refl

place-at : (f : ℕ → Option ℕ) (k n i : ℕ) → i < n → found None (slice_get (map f (places_from k n)) i) ≡ f (k + i)
place-at f k zero i l = absurd (omega arith)
place-at f k (suc n) zero l = let e : k + 0 ≡ k = omega arith in rw e refl
place-at f k (suc n) (suc i) l =
    let e : k + suc i ≡ k + 1 + i = omega arith in place-at f (k + 1) n i (omega arith) ∙ ap f (sym e)

interrupts-same : (sys : SystemTables) (p i : ℕ) → i < 32
    → interrupts_there (handler_processors sys) p i ≡ interrupts_on sys p i
interrupts-same sys p i l =
    let e : 0 + i ≡ i = omega arith in
    ap (λ (o : Option ℕ). is_on o p) (place-at (λ (j : ℕ). processor_of (interrupt_config sys j)) 0 32 i l)
    ∙ ap (λ (j : ℕ). is_on (processor_of (interrupt_config sys j)) p) e
    ∙ interrupt-same (interrupt_config sys i) p

cycles-same : (sys : SystemTables) (p c : ℕ) → c < length sys.cyclics
    → cycles_there (handler_processors sys) p c ≡ cycles_on sys p c
cycles-same sys p c l = at sys.cyclics c l where
  at : (rows : List CyclicConfig) (c : ℕ) → c < length rows
      → is_on (slice_get (map (λ (x : CyclicConfig). x.processor) rows) c) p
      ≡ nat_eq (cyclic_config (record sys { cyclics = rows }) c).processor p
  at [] c l = absurd (omega arith)
  at (x ∷ rows) zero l = refl
  at (x ∷ rows) (suc c) l = at rows c (omega arith)

-- the first marked handler of a system is its first pending one
pub first_handler-is : (sys : SystemTables) (s : KernelState) (p : ℕ) → length s.pending_interrupts ≤ 32
    → length s.pending_cyclics ≤ length sys.cyclics
    → first_handler
    (record { processors = handler_processors sys; interrupts = s.pending_interrupts; cyclics = s.pending_cyclics })
    p
    ≡ pending_handler sys s p
first_handler-is sys s p is cs =
    ap (λ (o : Option ℕ). interrupt_or o
    (cyclic_handler (first_pending (cycles_there (handler_processors sys) p) 0 s.pending_cyclics)))
    (first-same (interrupts_there (handler_processors sys) p) (interrupts_on sys p) 0 s.pending_interrupts
    (λ i l. interrupts-same sys p i (omega arith)))
    ∙ ap
    (λ (o : Option ℕ). interrupt_or (first_pending (interrupts_on sys p) 0 s.pending_interrupts) (cyclic_handler o))
    (first-same (cycles_there (handler_processors sys) p) (cycles_on sys p) 0 s.pending_cyclics
    (λ c l. cycles-same sys p c (omega arith)))

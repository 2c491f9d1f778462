-- What settling leaves as it is.
use Rattle.std.proofs.Common.{◌≡◌, ◌∙◌, ℕ, List, [], ◌∷◌, Option, Some, None, Bool, true, false, refl}
use Rattle.std.specs.Prelude.{length, if◌then◌else◌}
use Rattle.fmp_base.specs.declared.states.Handler.{Handler}
use Rattle.fmp_base.specs.declared.states.Handler.TheVariants as handler
use Rattle.fmp_base.specs.declared.states.Processor.{Processor}
use Rattle.fmp_base.specs.Queues.{top}
use Rattle.fmp_base.specs.Settles.{all_settled, dispatched, handler_to_begin, is_dispatch_held, settled, settled_on}
use Rattle.fmp_base.specs.Settles.{settled_with}
use Rattle.fmp_base.specs.States.{KernelState, Progress, places_from, processor_at}
use Rattle.fmp_base.specs.Systems.{SystemTables}

-- a part of the state that a handler's beginning and a dispatch leave as it is stays the same until all have settled
module _ {X : Type 0} (part : KernelState → X)
    (by_handler : (g : Progress) (p : ℕ) (cpu : Processor) (h : Handler)
    → part (settled_with (Some h) g p cpu).state ≡ part g.state)
    (by_task : (g : Progress) (p : ℕ) (cpu : Processor) (t : Option ℕ)
    → part (dispatched g p cpu t).state ≡ part g.state) where
  stays_if : (held : Bool) (g : Progress) (p : ℕ) (cpu : Processor) (t : Option ℕ)
      → part (if held then g else dispatched g p cpu t).state ≡ part g.state
  stays_if true g p cpu t = refl
  stays_if false g p cpu t = by_task g p cpu t

  stays_with : (o : Option Handler) (g : Progress) (p : ℕ) (cpu : Processor)
      → part (settled_with o g p cpu).state ≡ part g.state
  stays_with (Some h) g p cpu = by_handler g p cpu h
  stays_with None g p cpu = stays_if (is_dispatch_held cpu) g p cpu (top g.state p)

  stays_among : (sys : SystemTables) (ps : List ℕ) (g : Progress)
      → part (all_settled sys g ps).state ≡ part g.state
  stays_among sys [] g = refl
  stays_among sys (p ∷ ps) g =
      let cpu = processor_at g.state p in
      stays_among sys ps (settled_on sys g p cpu) ∙ stays_with (handler_to_begin sys g.state p cpu) g p cpu

  pub stays : (sys : SystemTables) (g : Progress) → part (settled sys g).state ≡ part g.state
  stays sys g = stays_among sys (places_from 0 (length g.state.processors)) g

tasks_begun : (g : Progress) (p : ℕ) (cpu : Processor) (h : Handler)
    → (settled_with (Some h) g p cpu).state.tasks ≡ g.state.tasks
tasks_begun g p cpu (handler.Interrupt i) = refl
tasks_begun g p cpu (handler.Cyclic c) = refl

order_begun : (g : Progress) (p : ℕ) (cpu : Processor) (h : Handler)
    → (settled_with (Some h) g p cpu).state.order ≡ g.state.order
order_begun g p cpu (handler.Interrupt i) = refl
order_begun g p cpu (handler.Cyclic c) = refl

pub tasks_stay : (sys : SystemTables) (g : Progress) → (settled sys g).state.tasks ≡ g.state.tasks
tasks_stay sys g = stays (λ (s : KernelState). s.tasks) tasks_begun (λ f p cpu t. refl) sys g

pub order_stays : (sys : SystemTables) (g : Progress) → (settled sys g).state.order ≡ g.state.order
order_stays sys g = stays (λ (s : KernelState). s.order) order_begun (λ f p cpu t. refl) sys g

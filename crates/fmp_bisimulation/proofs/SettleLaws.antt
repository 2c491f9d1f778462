-- Processors settle in the same way in alike states.
use Rattle.std.proofs.Common.{refl, ◌≡◌, ℕ, List, [], ◌∷◌, ◌++◌, Option, Some, None, true, false, ◌||◌, ap, subst}
use Rattle.std.proofs.Common.{length, cond}
use Rattle.fmp_base.specs.declared.events.Line.{Line}
use Rattle.fmp_base.specs.declared.events.Line.TheVariants as line
use Rattle.fmp_base.specs.declared.states.Handler.{Handler}
use Rattle.fmp_base.specs.declared.states.Handler.TheVariants as handler
use Rattle.fmp_base.specs.declared.states.Processor.{Processor}
use Rattle.fmp_base.specs.ProcessorCalls.{is_cpu_locked}
use Rattle.fmp_base.specs.Settles.{all_settled, begun, dispatch_lines, dispatched, handler_to_begin, is_dispatch_held}
use Rattle.fmp_base.specs.Settles.{is_same_task, pending_handler, runs_handler, settled, settled_on, settled_with}
use Rattle.fmp_base.specs.Settles.{without_pending}
use Rattle.fmp_base.specs.Queues.{top}
use Rattle.fmp_base.specs.States.{KernelState, Progress, places_from, processor_at, with_processor}
use Rattle.fmp_base.specs.Systems.{SystemTables}
use Rattle.fmp_bisimulation.specs.Alike.{AlikeStates, SameProgress}
use Rattle.fmp_bisimulation.proofs.ChangeLaws.{processors-same}
use Rattle.fmp_bisimulation.proofs.ReadLaws.{top-same}
use Rattle.fmp_bisimulation.proofs.StateLaws.{alike-changed}

-- a handler is no longer pending
alike-without_pending : (sys : SystemTables) (s u : KernelState) (i : Handler) → AlikeStates sys s u
    → AlikeStates sys (without_pending s i) (without_pending u i)
alike-without_pending sys s u (handler.Interrupt i) h =
    alike-changed sys (λ z. without_pending z (handler.Interrupt i)) (λ z. refl) (λ z. refl) s u h
alike-without_pending sys s u (handler.Cyclic i) h =
    alike-changed sys (λ z. without_pending z (handler.Cyclic i)) (λ z. refl) (λ z. refl) s u h

alike-with_processor : (sys : SystemTables) (s u : KernelState) (p : ℕ) (cpu : Processor) → AlikeStates sys s u
    → AlikeStates sys (with_processor s p cpu) (with_processor u p cpu)
alike-with_processor sys s u p cpu h =
    alike-changed sys (λ z. with_processor z p cpu) (λ z. refl) (λ z. refl) s u h

pending-same : (sys : SystemTables) (s u : KernelState) (p : ℕ) → AlikeStates sys s u → pending_handler sys s p
    ≡ pending_handler sys u p
pending-same sys s u p h = ap (λ (z : KernelState). pending_handler sys z p) h.rest

begun-same : (sys : SystemTables) (g i : Progress) (p : ℕ) (cpu : Processor) (h : Handler) → SameProgress sys g i
    → SameProgress sys (begun g p cpu h) (begun i p cpu h)
begun-same sys g i p cpu h k =
    record {
      state = alike-with_processor sys _ _ p _ (alike-without_pending sys g.state i.state h k.state);
      lines = ap (λ (ls : List Line). ls ++ line.Begins p h ∷ []) k.lines;
    }

dispatched-same : (sys : SystemTables) (g i : Progress) (p : ℕ) (cpu : Processor) (t : Option ℕ) → SameProgress sys g i
    → SameProgress sys (dispatched g p cpu t) (dispatched i p cpu t)
dispatched-same sys g i p cpu t k =
    record {
      state = alike-with_processor sys g.state i.state p (record cpu { run = t }) k.state;
      lines = ap (λ (ls : List Line). ls ++ dispatch_lines (is_same_task cpu.run t) p t) k.lines;
    }

settled_with-same : (sys : SystemTables) (b : Option Handler) (g i : Progress) (p : ℕ) (cpu : Processor)
    → SameProgress sys g i
    → SameProgress sys (settled_with b g p cpu) (settled_with b i p cpu)
settled_with-same sys (Some h) g i p cpu k = begun-same sys g i p cpu h k
settled_with-same sys None g i p cpu k =
    elim (is_dispatch_held cpu) as (λ b. SameProgress sys (cond b g (dispatched g p cpu (top g.state p)))
    (cond b i (dispatched i p cpu (top i.state p)))) [
      | true ↦ k
      | false ↦ subst (λ (t : Option ℕ). SameProgress sys (dispatched g p cpu (top g.state p)) (dispatched i p cpu t))
          (top-same sys g.state i.state p k.state) (dispatched-same sys g i p cpu (top g.state p) k)
    ]

settled_on-same : (sys : SystemTables) (g i : Progress) (p : ℕ) (cpu : Processor) → SameProgress sys g i
    → SameProgress sys (settled_on sys g p cpu) (settled_on sys i p cpu)
settled_on-same sys g i p cpu k =
    subst (λ (b : Option Handler). SameProgress sys (settled_on sys g p cpu) (settled_with b i p cpu))
    (ap (λ (b : Option Handler). cond (runs_handler cpu.handler || is_cpu_locked cpu) None b)
    (pending-same sys g.state i.state p k.state))
    (settled_with-same sys (handler_to_begin sys g.state p cpu) g i p cpu k)

all_settled-same : (sys : SystemTables) (g i : Progress) (ps : List ℕ) → SameProgress sys g i
    → SameProgress sys (all_settled sys g ps) (all_settled sys i ps)
all_settled-same sys g i [] k = k
all_settled-same sys g i (p ∷ ps) k =
    let a = k.state in
    all_settled-same sys (settled_on sys g p (processor_at g.state p)) (settled_on sys i p (processor_at i.state p)) ps
    (subst (λ (cpu : Processor). SameProgress sys (settled_on sys g p (processor_at g.state p))
    (settled_on sys i p cpu))
    (processors-same sys g.state i.state a p)
    (settled_on-same sys g i p (processor_at g.state p) k))

pub settled-same : (sys : SystemTables) (g i : Progress) → SameProgress sys g i
    → SameProgress sys (settled sys g) (settled sys i)
settled-same sys g i k =
    let a = k.state in
    subst (λ (n : ℕ). SameProgress sys (settled sys g) (all_settled sys i (places_from 0 n)))
    (ap (λ (z : KernelState). length z.processors) a.rest)
    (all_settled-same sys g i (places_from 0 (length g.state.processors)) k)
